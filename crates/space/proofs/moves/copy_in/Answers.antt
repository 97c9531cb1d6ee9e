-- Where the bytes lie in the slice each turn lays one of them (`copy_turn`); where they do not, it is as it was.
use Rattle.std.proofs.Common.{◌≡◌, sym, ◌∙◌, ◌+◌, ◌≤◌, length, arith}
use lib.ListN.{drop_of_length-le}
use borrow.Author.Tests.{leb-true, leb-false}
use Rattle.space.proofs.Overlaid.{overlaid_none}
use Rattle.space.proofs.Turns.{copy_turn}
use Rattle.space.proofs.Frames.{copied_lies, copied_past}
use Rattle.space.proofs.moves.copy_in.Goals as goal

pub loop-i-preserved : goal.loop-i-preserved
loop-i-preserved c =
    let inside : c.args.to.0 + length c.args.bytes.now ≤ length c.args.space.now = leb-true _ _ (sym c.if-fits.ensures) in
    copy_turn _ _ _ c.loop-i.i c.loop-i-test.true (omega (arith, inside, c.loop-i.auto.space, c.loop-i-test.true)) ∙ c.loop-i.invariant

pub returns-after-loop-i : goal.returns-after-loop-i
returns-after-loop-i c =
    (rw (drop_of_length-le _ c.loop-i-test.false, overlaid_none) at c.loop-i.invariant) ∙ sym (copied_lies _ _ _ (leb-true _ _ (sym c.if-fits.ensures)))

pub returns-else-fits : goal.returns-else-fits
returns-else-fits c = sym (copied_past _ _ _ (leb-false _ _ (sym c.if-fits.ensures)))
