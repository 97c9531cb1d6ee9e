-- Numbers without leading zeros: what a field tells by its first bytes, and that ten digits are enough.
use mathlib.Core.Path.{◌≡◌, sym, ap, ◌∙◌}
use mathlib.Core.Logic.{⊎_elim}
use mathlib.Core.List.{List, [], ◌∷◌}
use Prim.Native.Nat.{ℕ, suc, ◌+◌, ◌-◌, ◌*◌, ◌^◌, ◌≤◌, ◌<◌}
use native.Mathlib.Nat.{le_refl, le_trans, mul-le-mul_right, mul-one, one-mul, mul_assoc, pow-zero, pow-succ', pow-le-pow_right}
use native.Mathlib.Omega.{arith}
use borrow.Author.Tests.{eqb-false}
use lib.Dec.{eqb}
use lib.ListN.{length}
use Rattle.whole.specs.Bytes.{leading}
use Rattle.whole.specs.Digits.{is_digit, leading_digits, value_from}
use Rattle.whole.proofs.Numbers.{less}
use Rattle.whole.proofs.Reading.{digit_from}
use Rattle.whole.proofs.Never.{never}
use Rattle.words.proofs.Choices.{by_test}
use Rattle.console.specs.Arguments.{number_given, Limited}
use Rattle.console.proofs.Values.{given_limited, no_digit, not_digits_alone, over_limit}
use Rattle.records.specs.Records.{leads_with_zero, figure_of}
use Rattle.std.specs.Prelude.{Some, None, Result, Ok, Err}
use Rattle.std.specs.Result.{result_ok}
use Rattle.console.specs.declared.arguments.BadNumber.{BadNumber}

-- ---- within the limit

module _ (most : ℕ) (s : List ℕ) where
  -- what is given is within its limit
  within : (g : Result ℕ BadNumber) → Limited g most → (n : ℕ) → result_ok g ≡ Some n → n ≤ most
  within (Ok v) h n e = let f : v ≡ n = cc in omega arith
  within (Err b) h n e = never (cc)

  pub figure_within : (n : ℕ) → figure_of most s ≡ Some n → n ≤ most
  unfolding figure_of
  figure_within n e =
      by_test (leads_with_zero s) (λ t. let f = rw t at e in never (cc))
      (λ t. within (number_given s most) (given_limited s most) n (rw t at e))

-- ---- ten digits are enough

-- what stands before digits counts ten times as much for each of them
value_power : (v : ℕ) (s : List ℕ) → v * 10 ^ length s ≤ value_from v s
unfolding value_from
value_power v [] = rw (pow-zero 10, mul-one v) (le_refl v)
value_power v (d ∷ s) =
    let e : v * 10 ^ suc (length s) ≡ v * 10 * 10 ^ length s = ap (λ n. v * n) (pow-succ' 10 (length s)) ∙ sym (mul_assoc v 10 (10 ^ length s)) in
    rw e (le_trans (mul-le-mul_right (10 ^ length s) (omega arith)) (value_power (v * 10 + (d - 48)) s))

-- a first digit that is not 0, and ten more
value_long : (d : ℕ) (s : List ℕ) → 49 ≤ d → 10 ≤ length s → 10000000000 ≤ value_from 0 (d ∷ s)
unfolding value_from
value_long d s h k =
    le_trans (pow-le-pow_right {n = 10} (omega arith) {i = 10} {j = length s} k)
    (le_trans (rw (one-mul (10 ^ length s)) at (mul-le-mul_right {m = 1} {n = 0 * 10 + (d - 48)} (10 ^ length s) (omega arith)))
    (value_power (0 * 10 + (d - 48)) s))

module _ (most : ℕ) (small : most < 10000000000) where
  -- digits alone, and too large; or something else
  given_long : (d : ℕ) (s : List ℕ) → (d ≡ 48 → ⊥) → 10 ≤ length s → result_ok (number_given (d ∷ s) most) ≡ None
  unfolding leading
  given_long d s n h =
      let t = d ∷ s in
      by_test (is_digit d)
      (λ is. let some : length (leading_digits t) ≡ 0 → ⊥ = λ e. omega (arith, rw is at e) in
      let low = digit_from d is in
      ⊎_elim (λ l. ap result_ok (sym (not_digits_alone t most some l)))
      (λ l. ap result_ok (sym (over_limit t most some l (omega (arith, value_long d s (omega (arith, n)) h)))))
      (less (length (leading_digits t)) (length t)))
      (λ not. ap result_ok (sym (no_digit t most (rw not))))

  pub long_figure : (s : List ℕ) → 11 ≤ length s → figure_of most s ≡ None
  unfolding figure_of
  long_figure [] h = absurd (omega arith)
  long_figure (d ∷ []) h = absurd (omega arith)
  long_figure (d ∷ e ∷ s) h =
      by_test (eqb d 48) (λ t. rw t) (λ t. rw t (given_long d (e ∷ s) (eqb-false d 48 t) (omega arith)))
