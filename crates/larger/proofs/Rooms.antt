-- What a formula without FRE comes to in a room that is wider: the same with the wider room, or it is 14 in the narrower one.
use mathlib.Core.Path.{◌≡◌, refl}
use mathlib.Core.Bool.{true}
use mathlib.Core.List.{List}
use Prim.Native.Nat.{ℕ, ◌+◌, ◌≤◌}
use native.Mathlib.Omega.{arith}
use borrow.Author.Tests.{ltb-false, le-ltb}
use lib.Dec.{ltb}
use lib.ListN.{length}
use Rattle.whole.specs.declared.errors.Error.{Error}
use Rattle.whole.specs.declared.errors.Error.TheVariants.{OutOfStringSpace}
use Rattle.words.proofs.Choices.{by_test}
use Rattle.grammar.specs.Trees.{Formula}
use Rattle.variables.specs.Strings.{Value, whole, text, Room, Outcome, make, let_go}
use Rattle.variables.specs.Variables.{Variables}
use Rattle.operators.specs.Values.{value_of}
use Rattle.laws.specs.Laws.{without_fre}
use Rattle.laws.proofs.Rooms.{Side, left_side, right_side, Agree, values, on_left, Lasting, value_agrees}

-- the same room with another number of bytes lent
abbrev pub wider_by : ℕ → Room → Room
wider_by k r = record { limit = k; live = r.live; unfinished = r.unfinished; highest = r.highest }

pub record Wider (k : ℕ) (r s : Room) : Type 0 where
  pub small : r.limit ≤ k
  pub is : s ≡ wider_by k r

-- 14 is spared in the narrower room alone
abbrev pub LacksFirst : Side → Error → Type 0
LacksFirst left_side e = e ≡ OutOfStringSpace
LacksFirst right_side e = ⊥

abbrev pub SameOrLacks : ℕ → Outcome → Outcome → Type 0
SameOrLacks k o p = Agree (Wider k) LacksFirst o p

-- a string that finds room in the narrower one finds it in the wider one
pub wider_makes : (k : ℕ) (b : List ℕ) (r s : Room) → Wider k r s → SameOrLacks k (make b r) (make b s)
unfolding make
wider_makes k b r s n =
    by_test (ltb r.limit (r.live + length b)) (λ e. rw e (on_left refl)) (λ e.
    let h : r.live + length b ≤ k = omega (arith, ltb-false r.limit (r.live + length b) e, n.small) in
    rw (n.is, e, le-ltb k (r.live + length b) h) (values (text b) (record { small = n.small; is = refl })))

wider_frees : (k : ℕ) (v : Value) (r s : Room) → Wider k r s → Wider k (let_go v r) (let_go v s)
unfolding let_go
wider_frees k (whole w) r s n = n
wider_frees k (text b) r s n = rw n.is (record { small = n.small; is = refl })

wider_lasts : (k : ℕ) → Lasting (Wider k) LacksFirst
wider_lasts k = record { makes = wider_makes k; frees = wider_frees k }

pub same_in_wider : (k : ℕ) (f : Formula) (vars : Variables) → without_fre f ≡ true → (r : Room) → r.limit ≤ k
    → SameOrLacks k (value_of f vars r) (value_of f vars (wider_by k r))
same_in_wider k f vars x r h = value_agrees (Wider k) LacksFirst (wider_lasts k) f vars x (record { small = h; is = refl })
