-- A line of the next caller, and those of the others after it (`callers_next`).
use Rattle.std.proofs.Common.{◌+◌, ◌≤◌, ap, ap₂, ◌∙◌, length, get_or, drop, arith}
use Rattle.space.specs.Moves.{overlaid}
use Rattle.space.proofs.Overlaid.{overlaid_none}
use Rattle.callers_of.specs.Answers.{caller_line, caller_lines}
use Rattle.callers_of.proofs.Telling.{callers_next, callers_none}
use Rattle.callers_of.proofs.answers.put_callers.Goals as goal

pub put_line-end-requires : goal.put_line-end-requires
put_line-end-requires c =
    let v = c.loop-number.invariant in
    omega (arith, v.0, c.loop-number-test.true, c.requires, c.loop-number.auto.out)

pub loop-number-preserved : goal.loop-number-preserved
loop-number-preserved c =
    let a = c.args in
    let l = c.loop-number in
    let v = c.loop-number.invariant in
    let h = c.loop-number-test.true in
    let w = c.put_line-end.ensures.by_index (caller_line (get_or a.callers.now l.number-index 0)) c.caller.ensures in
    let room : l.end ≤ length l.out = omega (arith, v.0, h, c.requires, c.loop-number.auto.out) in
    let k = callers_next l.out a.callers.now l.end l.number-index h room in (
      omega (arith, c.put_line-end.ensures.upper_bound, v.0),
      ap₂ (λ o e. overlaid o e (caller_lines (drop (l.number-index + 1) a.callers.now))) w.1 w.0 ∙ k.0 ∙ v.1,
      ap (λ e. e + length (caller_lines (drop (l.number-index + 1) a.callers.now))) w.0 ∙ k.1 ∙ v.2,
    )

pub returns : goal.returns
returns c =
    let v = c.loop-number.invariant in
    let n = callers_none c.args.callers.now c.loop-number.number-index c.loop-number-test.false in
    let out = rw (n, overlaid_none) at v.1 in
    record { upper_bound = (omega (arith, v.0, c.loop-number.auto), omega (arith, v.2, ap length n)); out_after = out }
