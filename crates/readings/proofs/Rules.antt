-- What the definitions say, in the paper's words: the value, its bits, and the three conditions under which a single holds it.
use mathlib.Core.Path.{◌≡◌, refl, sym, ap, ◌∙◌, subst}
use mathlib.Core.Bool.{Bool, true, false, cond}
use Prim.Native.Nat.{ℕ, zero, suc, ◌%◌, ◌^◌, ◌<◌}
use native.Mathlib.Omega.{arith}
use lib.Dec.{T, eqb}
use lib.Ieee.{Float, fits, binary32, binary64, to_bits, of_bits}
use lib.Ieee.Bits.{is_true, of_bits-fits}
use lib.Ieee.Exact.{HasValue, odd_sign}
use lib.Ieee.Fits.{fits_widens}
use lib.Pow.{pow_pos}
use Rattle.readings.specs.Values.{bits_below, mantissa_of, is_minus, Exact, exact_of, value_of, reading_of, format_of, is_single, bits_of}
use Rattle.readings.specs.Bits.{Denotes, ReadingsAreExact, ASingleHolds, holds_at, JustWhen, SinglesJustWhen}
use Rattle.readings.specs.declared.values.Reading.{Reading}
use Rattle.readings.specs.declared.values.Reading.TheVariants.{Single, Double}
use Rattle.readings.proofs.Products.{unique, fits64}
use Rattle.readings.proofs.Singles.{from_three, at_two, at_one, fits_sign}
use Rattle.readings.proofs.Denoting.{bits_denote, denoted_value}

-- ---- the value

-- (8388608 + m) times 2 to the power e minus 152, signed, exactly
value_has : (l m h e : ℕ) → HasValue (value_of l m h e) (exact_of l m h e).minus (exact_of l m h e).size (2 ^ 152)
unfolding value_of
value_has l m h zero = (refl, refl)
value_has l m h (suc e) = odd_sign 24 (is_minus h) (mantissa_of l m h) (suc e) 152

-- a double holds it
value_fits : (l m h e : ℕ) → l < 256 → m < 256 → e < 256 → T (fits binary64 (value_of l m h e))
unfolding value_of fits
value_fits l m h zero L M E = tt
value_fits l m h (suc e) L M E = fits64 (is_minus h) (mantissa_of l m h) (suc e) (omega arith) (omega arith)

-- a single does under the paper's conditions, and under no other
single_when : (l m h e : ℕ) → l < 256 → m < 256 → e < 256 → fits binary32 (value_of l m h e) ≡ holds_at (bits_below l m h) e
unfolding value_of fits
single_when l m h zero L M E = refl
single_when l m h (suc zero) L M E =
    let z : mantissa_of l m h % 4 ≡ bits_below l m h % 4 = omega arith in
    fits_sign binary32 (is_minus h) false 24 (mantissa_of l m h) 1 152
    ∙ sym (at_one (mantissa_of l m h) (omega arith))
    ∙ ap (λ (x : ℕ). eqb x 0) z
single_when l m h (suc (suc zero)) L M E =
    let z : mantissa_of l m h % 2 ≡ bits_below l m h % 2 = omega arith in
    fits_sign binary32 (is_minus h) false 24 (mantissa_of l m h) 2 152
    ∙ sym (at_two (mantissa_of l m h) (omega arith))
    ∙ ap (λ (x : ℕ). eqb x 0) z
single_when l m h (suc (suc (suc e))) L M E =
    fits_sign binary32 (is_minus h) false 24 (mantissa_of l m h) (suc (suc (suc e))) 152
    ∙ sym (from_three (mantissa_of l m h) (suc (suc (suc e))) (omega arith) (omega arith) (omega arith))

-- ---- the bits of a reading

either_denotes : (b : Bool) (v : Float) (x : Exact) → b ≡ fits binary32 v → T (fits binary64 v) → HasValue v x.minus x.size (2 ^ 152)
    → Denotes (format_of (cond b (Single v) (Double v))) (bits_of (cond b (Single v) (Double v))) x
either_denotes true v x e w k = bits_denote binary32 v x (subst T e tt) k
either_denotes false v x e w k = bits_denote binary64 v x w k

pub readings_are_exact : ReadingsAreExact
unfolding reading_of
readings_are_exact l m h e L M H E =
    either_denotes (fits binary32 (value_of l m h e)) (value_of l m h e) (exact_of l m h e) refl (value_fits l m h e L M E) (value_has l m h e)

-- so an answer that is the reading has bits that denote the value
pub and_exact : {r : Reading} (l m h e : ℕ) → l < 256 → m < 256 → h < 256 → e < 256 → r ≡ reading_of l m h e
    → (r ≡ reading_of l m h e) × Denotes (format_of r) (bits_of r) (exact_of l m h e)
and_exact l m h e L M H E is = (
  is,
  subst (λ (r : Reading). Denotes (format_of r) (bits_of r) (exact_of l m h e)) (sym is) (readings_are_exact l m h e L M H E),
)

-- ---- when a single holds a value

kind_is : (b : Bool) (v : Float) → is_single (cond b (Single v) (Double v)) ≡ b
kind_is true v = refl
kind_is false v = refl

module _ (l m h e : ℕ) (L : l < 256) (M : m < 256) (E : e < 256) where
  -- bits that denote the value stand for the number that the definition has
  held_fits : ASingleHolds (exact_of l m h e) → T (fits binary32 (value_of l m h e))
  held_fits (b, d) =
      let x = exact_of l m h e in
      subst (λ (v : Float). T (fits binary32 v))
      (unique binary64 (of_bits binary32 b) (value_of l m h e) x.minus x.size (2 ^ 152) (pow_pos 152)
      (fits_widens (of_bits binary32 b) (of_bits-fits binary32 b)) (value_fits l m h e L M E) (denoted_value binary32 b x d) (value_has l m h e))
      (of_bits-fits binary32 b)

  fits_held : fits binary32 (value_of l m h e) ≡ true → ASingleHolds (exact_of l m h e)
  fits_held p =
      (to_bits binary32 (value_of l m h e), bits_denote binary32 (value_of l m h e) (exact_of l m h e) (subst T (sym p) tt) (value_has l m h e))

  given_is : is_single (reading_of l m h e) ≡ fits binary32 (value_of l m h e)
  unfolding reading_of
  given_is = kind_is (fits binary32 (value_of l m h e)) (value_of l m h e)

  just_when : JustWhen l m h e
  just_when =
      let rule = single_when l m h e L M E in
      record {
        held = ((λ a. sym rule ∙ is_true (fits binary32 (value_of l m h e)) (held_fits a)), (λ p. fits_held (rule ∙ p)));
        given = ((λ p. fits_held (sym given_is ∙ p)), (λ a. given_is ∙ is_true (fits binary32 (value_of l m h e)) (held_fits a)));
      }

pub singles_just_when : SinglesJustWhen
singles_just_when l m h e L M H E = just_when l m h e L M E
