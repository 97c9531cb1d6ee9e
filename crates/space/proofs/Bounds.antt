-- What the test of a bound tells, and what `fits` answers by it.
use mathlib.Core.Path.{◌≡◌, refl, sym, ◌∙◌}
use mathlib.Core.Bool.{Bool, true, false, not}
use Prim.Native.Nat.{ℕ, ◌+◌, ◌-◌, ◌≤◌, ◌<◌}
use native.Mathlib.Omega.{arith}
use borrow.Author.Tests.{le-leb, lt-leb, leb-true, leb-false, not-true, not-false}
use lib.Dec.{leb}

-- what follows in either case
pub by_bound : {P : Type 0} (a b : ℕ) → (a ≤ b → P) → (b < a → P) → P
by_bound {P} a b y n = go (leb a b) refl
  where
    go : (t : Bool) → leb a b ≡ t → P
    go true e = y (leb-true a b e)
    go false e = n (leb-false a b e)

-- an offset is at most what so many bytes leave of a length, or it and they go past it
pub less_room : (at count len : ℕ) → count ≤ len → leb at (len - count) ≡ leb (at + count) len
less_room at count len h =
    by_bound at (len - count)
    (λ k. le-leb at (len - count) k ∙ sym (le-leb (at + count) len (omega arith)))
    (λ k. lt-leb at (len - count) k ∙ sym (lt-leb (at + count) len (omega arith)))

module _ {a b : ℕ} {t : Bool} (answer : t ≡ leb a b) where
  -- an answer that is no refusal
  pub within : not t ≡ false → a ≤ b
  within e = leb-true a b (sym answer ∙ not-false t e)

  -- and one that is
  pub past : not t ≡ true → b < a
  past e = leb-false a b (sym answer ∙ not-true t e)
