-- What holds of every record holds of the one that a search finds, of those under it, and of those that are left; and these are fewer.
use mathlib.Core.Bool.{Bool}
use mathlib.Core.List.{List, [], ◌∷◌}
use Prim.Native.Nat.{ℕ, suc, ◌≤◌, ◌<◌}
use native.Mathlib.Omega.{arith}
use lib.ListN.{length}
use Rattle.machine.specs.Machine.{Record, is_call, Search, missing, found, sought, below}
use Rattle.promises.proofs.Checked.Operators.{by_choice}

module _ (P : Record → Type 0) where
  abbrev pub Each : List Record → Type 0
  Each [] = Unit {0}
  Each (r ∷ rs) = P r × Each rs

  abbrev pub Found : Search → Type 0
  Found missing = Unit {0}
  Found (found r under) = P r × Each under

  pub sought_each : (test : Record → Bool) (rs : List Record) → Each rs → Found (sought test rs)
  unfolding sought
  sought_each test [] h = tt
  sought_each test (r ∷ rs) h = by_choice Found (test r) h (by_choice Found (is_call r) tt (sought_each test rs h.1))

  pub below_each : (test : Record → Bool) (rs : List Record) → Each rs → Each (below rs (sought test rs))
  below_each test rs h = left (sought test rs) (sought_each test rs h)
    where
      left : (s : Search) → Found s → Each (below rs s)
      left missing k = h
      left (found r under) k = k.1

-- ---- how many are left

-- fewer than so many stand under the one that was found
abbrev pub Fewer : ℕ → Search → Type 0
Fewer n missing = Unit {0}
Fewer n (found r under) = length under < n

fewer_more : (n : ℕ) (s : Search) → Fewer n s → Fewer (suc n) s
fewer_more n missing h = tt
fewer_more n (found r under) h = omega arith

pub sought_fewer : (test : Record → Bool) (rs : List Record) → Fewer (length rs) (sought test rs)
unfolding sought
sought_fewer test [] = tt
sought_fewer test (r ∷ rs) =
    by_choice (Fewer (suc (length rs))) (test r) (omega arith)
    (by_choice (Fewer (suc (length rs))) (is_call r) tt (fewer_more (length rs) (sought test rs) (sought_fewer test rs)))

pub below_fewer : (rs : List Record) (s : Search) → Fewer (length rs) s → length (below rs s) ≤ length rs
below_fewer rs missing h = omega arith
below_fewer rs (found r under) h = omega arith
