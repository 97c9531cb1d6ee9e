-- The loop keeps what taking the bytes from the place reached on comes to.
use Rattle.std.proofs.Common.{sym, ap, ◌∙◌, ◌+◌, drop}
use mathlib.Core.Path.{ap₂}
use Rattle.sheet.specs.bridge.Taking.{sheet, taken}
use Rattle.sheet.proofs.Taken.{taken_end, taken_byte, taken_none}
use Rattle.sheet.proofs.taking.take.Goals as goal
use Rattle.sheet.proofs.taking.take.Goals.{then-byte-eq-LINE_FEED, else-byte-eq-LINE_FEED}

pub loop-byte-preserved : goal.loop-byte-preserved
loop-byte-preserved c =
    let rest = drop (c.loop-byte.byte-index + 1) c.args.part.now in
    elim c.if-byte-eq-LINE_FEED.branch [
      | then-byte-eq-LINE_FEED w ↦ ap (λ s. taken s rest) (w.longer-is ∙ ap₂ sheet w.empty-longer.ensures w.ended_line-longer.ensures)
          ∙ taken_end _ _ _ _ c.loop-byte-test.true w.if-byte-eq-LINE_FEED.true ∙ c.loop-byte.invariant
      | else-byte-eq-LINE_FEED w ↦ ap (λ s. taken s rest) (w.longer-is ∙ ap (λ l. sheet l c.loop-byte.longer.count) w.put-longer.ensures)
          ∙ taken_byte _ _ _ _ c.loop-byte-test.true w.if-byte-eq-LINE_FEED.false ∙ c.loop-byte.invariant
    ]

pub returns : goal.returns
returns c = sym (taken_none _ _ _ c.loop-byte-test.false) ∙ c.loop-byte.invariant
