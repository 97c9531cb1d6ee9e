-- The loop keeps what divides both, and the last turn leaves the greatest.
use native.Mathlib.Omega.{arith}
use Rattle.means.proofs.Common.{Alike, alike_turn, alike_last}
use Rattle.means.proofs.fractions.greatest_common.Goals as goal

pub loop-left-preserved : goal.loop-left-preserved
loop-left-preserved c = (omega arith, alike_turn _ _ _ _ c.loop-left.invariant.1)

pub returns : goal.returns
returns c = let s : Alike c.args.total c.args.count c.loop-left.divisor 0 = rw c.loop-left-test.false at c.loop-left.invariant.1 in
    alike_last _ _ _ c.requires (omega arith) s
