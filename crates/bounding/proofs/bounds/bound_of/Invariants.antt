use Prim.Native.Nat.{◌+◌, ◌≤◌}
use Rattle.order.specs.bridge.Walking.{left_of}
use Rattle.bounding.specs.Bounding.{bound_of}
use Rattle.bounding.proofs.Counting.{Counts}
use Rattle.bounding.proofs.bounds.bound_of.Given as goal

abbrev pub invariant-loop-walk : goal.invariant-loop-walk
invariant-loop-walk l = Counts l.text l.walk l.count (bound_of l.text) × (l.count + left_of l.text l.walk ≤ 16909312)

abbrev pub decreases-loop-walk : goal.decreases-loop-walk
decreases-loop-walk l = left_of l.text l.walk
