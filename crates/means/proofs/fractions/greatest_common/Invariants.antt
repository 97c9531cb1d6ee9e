use Prim.Native.Nat.{◌+◌, ◌<◌}
use Rattle.means.proofs.Common.{Alike}
use Rattle.means.proofs.fractions.greatest_common.Given as goal

abbrev pub invariant-loop-left : goal.invariant-loop-left
invariant-loop-left l = (0 < l.divisor + l.left) × Alike l.total l.count l.divisor l.left

abbrev pub decreases-loop-left : goal.decreases-loop-left
decreases-loop-left l = l.left
