use mathlib.Core.List.{List}
use Rattle.machine.specs.Order.{Stand}
use Rattle.machine.specs.Items.{items_of}
use Rattle.order.specs.bridge.Walking.{Walks, Walking, left_of}
use Rattle.feeding.specs.bridge.Taking.{WalksOver}
use Rattle.feeding.proofs.taking.first_from.Given as goal

abbrev pub invariant-loop-walk : goal.invariant-loop-walk
invariant-loop-walk l = Walking l.text l.walk × ((xs : List Stand) → Walks l.text l.initial.walk xs → WalksOver l.text l.walk (items_of xs))

abbrev pub decreases-loop-walk : goal.decreases-loop-walk
decreases-loop-walk l = left_of l.text l.walk
