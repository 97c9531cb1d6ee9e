-- The greatest number that divides two others: it does, none that does is greater, and Euclid's turns keep what divides both.
use mathlib.Core.Path.{◌≡◌, sym, ◌∙◌}
use mathlib.Core.Logic.{⊎_elim}
use mathlib.Core.Bool.{true, false≢true, ◌&&◌}
use Prim.Native.Nat.{ℕ, zero, suc, ◌%◌, ◌≤◌, ◌<◌, ◌∣◌}
use native.Mathlib.Nat.{one-dvd, dvd_refl, dvd-zero, dvd-mod_iff, le_of_dvd, le_antisymm, mod-eq-zero_of_dvd, dvd_of_mod-eq-zero}
use native.Mathlib.Omega.{arith}
use borrow.Author.Tests.{eq-eqb, eqb-true}
use Rattle.whole.proofs.Numbers.{less}
use Rattle.words.proofs.Choices.{by_test, both}
use Rattle.means.specs.Means.{divides, common_up_to, greatest_common}

module _ (a b : ℕ) where
  -- the test of a number tells whether it divides both
  tested : (d : ℕ) → divides d a && divides d b ≡ true → (d ∣ a) × (d ∣ b)
  tested d t =
      let h = both (divides d a) (divides d b) t in
      (dvd_of_mod-eq-zero d (eqb-true (a % d) 0 h.0), dvd_of_mod-eq-zero d (eqb-true (b % d) 0 h.1))

  passes : (d : ℕ) → d ∣ a → d ∣ b → divides d a && divides d b ≡ true
  passes d h k = rw (eq-eqb (a % d) 0 (mod-eq-zero_of_dvd d h), eq-eqb (b % d) 0 (mod-eq-zero_of_dvd d k))

  pub common_divides : (k : ℕ) → (common_up_to a b k ∣ a) × (common_up_to a b k ∣ b)
  unfolding common_up_to
  common_divides zero = (one-dvd a, one-dvd b)
  common_divides (suc k) =
      by_test (divides (suc k) a && divides (suc k) b) (λ t. rw t (tested (suc k) t)) (λ t. rw t (common_divides k))

  pub common_some : (k : ℕ) → 0 < common_up_to a b k
  unfolding common_up_to
  common_some zero = omega arith
  common_some (suc k) =
      by_test (divides (suc k) a && divides (suc k) b) (λ t. rw t (omega arith)) (λ t. rw t (common_some k))

  -- none up to k that divides both is greater
  pub common_most : (d k : ℕ) → d ∣ a → d ∣ b → d ≤ k → d ≤ common_up_to a b k
  unfolding common_up_to
  common_most d zero h l m = omega arith
  common_most d (suc k) h l m =
      by_test (divides (suc k) a && divides (suc k) b) (λ t. rw t m)
      (λ t. rw t
      (⊎_elim (λ s. common_most d k h l (omega arith))
      (λ s. let e : d ≡ suc k = omega arith in
      absurd (false≢true (sym t ∙ passes (suc k) (rw e at h) (rw e at l))))
      (less d (suc k))))

-- what divides x and y is what divides a and b
pub record Alike (a b x y : ℕ) : Type 0 where
  pub to : (d : ℕ) → d ∣ x → d ∣ y → (d ∣ a) × (d ∣ b)
  pub from : (d : ℕ) → d ∣ a → d ∣ b → (d ∣ x) × (d ∣ y)

pub alike_first : (a b : ℕ) → Alike a b a b
alike_first a b = record { to = λ d h k. (h, k); from = λ d h k. (h, k) }

-- a turn of Euclid's
pub alike_turn : (a b x y : ℕ) → Alike a b x y → Alike a b y (x % y)
alike_turn a b x y s = record {
  to = λ d h k. s.to d ((dvd-mod_iff d {m = x} {n = y} h).0 k) h;
  from = λ d h k. let e = s.from d h k in (e.1, (dvd-mod_iff d {m = x} {n = y} e.1).1 e.0);
}

-- the last turn leaves the greatest
pub alike_last : (a b x : ℕ) → 0 < b → 0 < x → Alike a b x 0 → x ≡ greatest_common a b
alike_last a b x p q s =
    let h = s.to x (dvd_refl x) (dvd-zero x) in
    let g = common_divides a b b in
    le_antisymm (common_most a b x b h.0 h.1 (le_of_dvd p h.1)) (le_of_dvd q (s.from (greatest_common a b) g.0 g.1).0)
