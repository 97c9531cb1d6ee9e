-- The reading that the code makes of its four bytes is the one that the definition gives.
use mathlib.Core.Path.{◌≡◌, refl, sym, ap, ◌∙◌, subst}
use mathlib.Core.Bool.{Bool, true, false, not, ◌&&◌, cond}
use mathlib.Core.Logic.{◌⊎◌, inl, inr}
use Prim.Native.Nat.{ℕ, zero, suc, ◌≤◌, ◌<◌}
use lib.IntN.{pos}
use lib.Arith.{lt→nleb}
use lib.Dec.{T, leb, le→leb}
use lib.Ieee.{Float, fin, binary32, odd, neg, fits, is_nan}
use lib.Ieee.Bits.{is_true, is_false}
use lib.Ieee.Fits.{and_i}
use Rattle.readings.specs.Values.{mantissa_of, value_of, reading_of}
use Rattle.readings.specs.declared.values.Reading.TheVariants.{Single, Double}
use Rattle.readings.proofs.Singles.{fits_sign, negated, no_nan}

-- the sign is put on after the size is made
pub signed : (h n e : ℕ) (x y : Float) → x ≡ odd 24 false n e 152 → ((128 ≤ h) × (y ≡ neg x)) ⊎ ((h < 128) × (y ≡ x))
    → y ≡ odd 24 (leb 128 h) n e 152
signed h n e x y p (inl (k, q)) =
    q ∙ ap neg p ∙ negated 24 n e 152 ∙ ap (λ (s : Bool). odd 24 s n e 152) (sym (is_true (leb 128 h) (le→leb 128 h k)))
signed h n e x y p (inr (k, q)) = q ∙ p ∙ ap (λ (s : Bool). odd 24 s n e 152) (sym (is_false (leb 128 h) (lt→nleb 128 h k)))

at_value : (l m h e : ℕ) → (e ≡ 0 → ⊥) → odd 24 (leb 128 h) (mantissa_of l m h) e 152 ≡ value_of l m h e
unfolding value_of
at_value l m h zero k = absurd (k refl)
at_value l m h (suc e) k = refl

is_single : (b : Bool) (v y : Float) → b ≡ true → y ≡ v → Single y ≡ cond b (Single v) (Double v)
is_single b v y p q = ap Single q ∙ ap (λ (z : Bool). cond z (Single v) (Double v)) (sym p)

is_double : (b : Bool) (v y : Float) → b ≡ false → y ≡ v → Double y ≡ cond b (Single v) (Double v)
is_double b v y p q = ap Double q ∙ ap (λ (z : Bool). cond z (Single v) (Double v)) (sym p)

-- what the value y is good for, where b says whether a single holds it
pub record Made (l m h e : ℕ) (y : Float) (b : Bool) : Type 0 where
  pub cast : b ≡ true → T (fits binary32 y && not (is_nan y))
  pub single : b ≡ true → Single y ≡ reading_of l m h e
  pub double : b ≡ false → Double y ≡ reading_of l m h e

module _ (l m h e n : ℕ) (x y : Float) (b : Bool) (k : e ≡ 0 → ⊥) (is : n ≡ mantissa_of l m h) (p : x ≡ odd 24 false n e 152)
    (r : b ≡ fits binary32 (odd 24 false n e 152)) (w : ((128 ≤ h) × (y ≡ neg x)) ⊎ ((h < 128) × (y ≡ x))) where
  value : y ≡ value_of l m h e
  value = signed h n e x y p w ∙ ap (λ (z : ℕ). odd 24 (leb 128 h) z e 152) is ∙ at_value l m h e k

  held : b ≡ fits binary32 (value_of l m h e)
  held = r ∙ fits_sign binary32 false (leb 128 h) 24 n e 152 ∙ ap (fits binary32) (sym (signed h n e x y p w) ∙ value)

  narrows : b ≡ true → T (fits binary32 y && not (is_nan y))
  narrows t =
      and_i (fits binary32 y) (not (is_nan y)) (subst T (sym t ∙ held ∙ ap (fits binary32) (sym value)) tt)
      (subst (λ (z : Float). T (not (is_nan z))) (sym (signed h n e x y p w)) (no_nan 24 (leb 128 h) n e 152))

  pub made : Made l m h e y b
  unfolding reading_of
  made =
      record {
        cast = narrows;
        single = λ t. is_single (fits binary32 (value_of l m h e)) (value_of l m h e) y (sym held ∙ t) value;
        double = λ t. is_double (fits binary32 (value_of l m h e)) (value_of l m h e) y (sym held ∙ t) value;
      }

-- an exponent of 0
pub zeroth : (l m h : ℕ) → Single (fin false 0 (pos 0)) ≡ reading_of l m h 0
unfolding reading_of value_of fits
zeroth l m h = refl
