-- Where both places lie in the slice it is overlaid with the bytes; where either does not, it is as it was.
use Rattle.std.proofs.Common.{◌≡◌, sym, ◌∙◌, ◌+◌, ◌-◌, ◌≤◌, length, drop, length-drop, arith}
use Rattle.space.proofs.Overlaid.{paste-overlaid}
use borrow.Author.Tests.{leb-true, leb-false}
use Rattle.space.proofs.Frames.{moved_lies, moved_past_from, moved_past_to}
use Rattle.space.proofs.moves.move_bytes.Goals as goal
use Rattle.space.proofs.moves.move_bytes.Goals.{else-fits-via-then-fits+else-fits-2, else-fits-via-else-fits}

pub returns-then-fits-2 : goal.returns-then-fits-2
returns-then-fits-2 c =
    let space = c.args.space.now in
    let from = leb-true (c.args.from.0 + c.args.count) (length space) (sym c.if-fits.ensures) in
    let to = leb-true (c.args.to.0 + c.args.count) (length space) (sym c.if-fits-2.ensures) in
    let n : c.args.from.0 + c.args.count - c.args.from.0 ≡ c.args.count = omega arith in
    let h : c.args.count ≤ length (drop c.args.from.0 space) = simp length-drop (omega arith) in
    c.copy_within.ensures.after ∙ rw n (paste-overlaid space c.args.to.0 (drop c.args.from.0 space) c.args.count h)
    ∙ sym (moved_lies _ _ _ _ from to)

pub returns-else-fits : goal.returns-else-fits
returns-else-fits c =
    elim c.else-fits.branch [
      | else-fits-via-then-fits+else-fits-2 w ↦ sym (moved_past_to _ _ _ _ (leb-false _ _ (sym w.if-fits-2.ensures)))
      | else-fits-via-else-fits w ↦ sym (moved_past_from _ _ c.args.to.0 _ (leb-false _ _ (sym w.if-fits.ensures)))
    ]
