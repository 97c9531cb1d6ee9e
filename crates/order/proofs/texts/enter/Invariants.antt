use mathlib.Core.Path.{◌≡◌}
use Prim.Native.Nat.{◌-◌, ◌≤◌}
use lib.ListN.{length}
use Rattle.machine.specs.bridge.Holding.{lines_at}
use Rattle.machine.specs.Order.{stands}
use Rattle.order.specs.bridge.Walking.{Reached}
use Rattle.order.proofs.texts.enter.Given as goal

abbrev pub invariant-loop-line : goal.invariant-loop-line
invariant-loop-line l = Reached l.text l.at.0 × ((stands (lines_at l.text l.at.0) ≡ stands (lines_at l.text l.initial.at.0)) × (l.initial.at.0 ≤ l.at.0))

abbrev pub decreases-loop-line : goal.decreases-loop-line
decreases-loop-line l = length l.text - l.at.0
