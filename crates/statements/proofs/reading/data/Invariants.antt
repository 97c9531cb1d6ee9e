use mathlib.Core.Path.{◌≡◌}
use Rattle.items.specs.Items.{items_from}
use Prim.Native.Nat.{◌+◌, ◌-◌}
use lib.ListN.{length}
use Rattle.statements.proofs.Naming.{held_read}
use Rattle.statements.proofs.reading.data.Given as goal

abbrev pub invariant-loop-item : goal.invariant-loop-item
invariant-loop-item l = held_read l.line (items_from l.line l.initial.at.0) ≡ held_read l.line (items_from l.line l.at.0)

abbrev pub decreases-loop-item : goal.decreases-loop-item
decreases-loop-item l = length l.line + 1 - l.at.0
