use mathlib.Core.List.{List}
use Prim.Native.Nat.{◌+◌, ◌≤◌}
use Rattle.machine.specs.Order.{Stand, partner, pairs_by}
use Rattle.order.specs.bridge.Walking.{Walks, Walking, left_of}
use Rattle.order.proofs.Pairing.{Seeking}
use Rattle.order.proofs.partners.partner.Given as goal

abbrev pub invariant-loop-walk : goal.invariant-loop-walk
invariant-loop-walk l = Walking l.text l.walk
    × ((l.waiting + left_of l.text l.walk ≤ 16909312)
    × ((xs : List Stand) → Walks l.text l.initial.walk xs → Seeking l.text (pairs_by l.opens l.closes) l.walk l.waiting (partner (pairs_by l.opens l.closes) 0 xs)))

abbrev pub decreases-loop-walk : goal.decreases-loop-walk
decreases-loop-walk l = left_of l.text l.walk
