-- A mean is in lowest terms: the quotient is the mean, and only 1 divides both.
use mathlib.Core.Path.{◌≡◌, sym, ap, ◌∙◌}
use Prim.Native.Nat.{ℕ, zero, suc, ◌*◌, ◌/◌, ◌≤◌, ◌<◌, ◌∣◌}
use native.Mathlib.Nat.{div-mul_cancel, mul_comm, mul_assoc, mul-dvd-mul, dvd_refl, le_of_dvd, le_of_mul-le-mul_right, zero-mul, one-mul, pos_of_dvd_of_pos}
use native.Mathlib.Omega.{arith}
use borrow.Author.Tests.{ne_eqb}
use Rattle.means.specs.Means.{greatest_common, over, mean_of, MeansAreLowest}
use Rattle.means.proofs.Common.{common_divides, common_some, common_most}

left_some : (d g : ℕ) → 0 < d * g → 0 < d
left_some zero g h = rw (zero-mul g) at h
left_some (suc d) g h = omega arith

module _ (a b : ℕ) (some : 0 < b) where
  pub mean_over : mean_of a b ≡ over a b (greatest_common a b)
  unfolding mean_of
  mean_over = let z : b ≡ 0 → ⊥ = λ e. omega arith in rw (ne_eqb b 0 z)

  module _ (g : ℕ) (ga : g ∣ a) (gb : g ∣ b) (pos : 0 < g) (most : (d : ℕ) → d ∣ a → d ∣ b → d ≤ g) where
    quotient_kept : a / g * b ≡ a * (b / g)
    quotient_kept =
        ap (λ n. a / g * n) (sym (div-mul_cancel g gb) ∙ mul_comm (b / g) g)
        ∙ sym (mul_assoc (a / g) g (b / g))
        ∙ ap (λ n. n * (b / g)) (div-mul_cancel g ga)

    -- what divides both is 1: with g it divides a and b, so it is no greater
    none_left : (d : ℕ) → d ∣ a / g → d ∣ b / g → d ≡ 1
    none_left d h k =
        let da : d * g ∣ a = rw (div-mul_cancel g ga) at (mul-dvd-mul d g h (dvd_refl g)) in
        let db : d * g ∣ b = rw (div-mul_cancel g gb) at (mul-dvd-mul d g k (dvd_refl g)) in
        let low : 0 < d = left_some d g (pos_of_dvd_of_pos db some) in
        let high : d ≤ 1 = le_of_mul-le-mul_right (rw (one-mul g) (most (d * g) da db)) pos in
        omega arith

pub means_are_lowest : MeansAreLowest
means_are_lowest a b some =
    let g = greatest_common a b in
    let h = common_divides a b b in
    let most : (d : ℕ) → d ∣ a → d ∣ b → d ≤ g = λ d k l. common_most a b d b k l (le_of_dvd some l) in
    rw (mean_over a b some)
    (record {
      quotient = quotient_kept a b some g h.0 h.1 (common_some a b b) most;
      alone = none_left a b some g h.0 h.1 (common_some a b b) most;
    })
