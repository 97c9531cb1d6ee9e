-- What bits denote is the number that they stand for: from a number to its bits, and back.
use mathlib.Core.Path.{◌≡◌, refl, sym, ap, ◌∙◌, subst}
use mathlib.Core.Bool.{Bool, true, false, cond, false≢true}
use Prim.Native.Nat.{ℕ, zero, suc, ◌+◌, ◌-◌, ◌*◌, ◌%◌, ◌^◌, ◌<◌}
use native.Mathlib.Nat.{mul-one, mul_comm, mul_right_comm, mul-pos, mod-lt, zero-lt-suc, div-lt_iff_lt-mul, eq_of_mul-eq-mul_right}
use native.Mathlib.Omega.{arith}
use lib.Dec.{T, eqb, eqb→eq, not_T}
use lib.Ieee.{Float, nan, inf, fin, Format, prec, low, up, down, odd, fits, hid, ones, top, of_fields, of_bits, to_bits}
use lib.Ieee.Bits.{cond_no, is_true, of_bits-to_bits, to_bits-lt}
use lib.Ieee.Exact.{HasValue, odd_sign}
use lib.Ieee.Fits.{down_pos, eq→eqb}
use lib.Pow.{pow_pos}
use Rattle.readings.specs.Values.{Exact}
use Rattle.readings.specs.Bits.{sign_in, field_in, digits_in, size_by, size_in, Denotes}

-- ---- a number as a fraction

-- two fractions of one number
two_fractions : (v : Float) (s t : Bool) (a c b d : ℕ) → HasValue v s a c → HasValue v t b d → (s ≡ t) × (a * d ≡ b * c)
two_fractions nan s t a c b d x y = absurd x
two_fractions (inf u) s t a c b d x y = absurd x
two_fractions (fin u m e) s t a c b d x y = (
  sym x.0 ∙ y.0,
  eq_of_mul-eq-mul_right (down e) (down_pos e) (a * d) (b * c)
      (mul_right_comm a d (down e)
      ∙ ap (λ (z : ℕ). z * d) (sym x.1)
      ∙ mul_right_comm (m * up e) c d
      ∙ ap (λ (z : ℕ). z * c) y.1
      ∙ mul_right_comm b (down e) c),
)

-- and another of the same size is one too
other_fraction : (v : Float) (s : Bool) (a c b d : ℕ) → 0 < c → b * c ≡ a * d → HasValue v s a c → HasValue v s b d
other_fraction nan s a c b d p h x = x
other_fraction (inf u) s a c b d p h x = x
other_fraction (fin u m e) s a c b d p h x = (
  x.0,
  eq_of_mul-eq-mul_right c p (m * up e * d) (b * down e)
      (mul_right_comm (m * up e) d c
      ∙ ap (λ (z : ℕ). z * d) x.1
      ∙ mul_right_comm a (down e) d
      ∙ ap (λ (z : ℕ). z * down e) (sym h)
      ∙ mul_right_comm b c (down e)),
)

-- ---- what the fields of some bits stand for

fields_of : (f : Format) (b : ℕ) → of_bits f b ≡ of_fields f (sign_in f b) (field_in f b) (digits_in f b)
unfolding of_bits
fields_of f b = refl

field_most : (f : Format) (b : ℕ) → field_in f b < suc (ones f)
field_most f b =
    (div-lt_iff_lt-mul (pow_pos (prec f - 1))).1
    (subst (λ (a : ℕ). b % top f < a) (mul_comm (hid f) (suc (ones f))) (mod-lt b (mul-pos (pow_pos (prec f - 1)) (zero-lt-suc (ones f)))))

fields_value : (f : Format) (s : Bool) (x t : ℕ) → x < ones f → HasValue (of_fields f s x t) s (size_by (hid f) x t) (2 ^ low f)
unfolding of_fields
fields_value f s zero t h =
    subst (λ (z : ℕ). HasValue (odd (prec f) s t 0 (low f)) s z (2 ^ low f)) (mul-one t) (odd_sign (prec f) s t 0 (low f))
fields_value f s (suc x) t h =
    let other = not_T (eqb (suc x) (ones f)) (λ e. let k = eqb→eq (suc x) (ones f) e in omega (arith, h, k)) in
    subst (λ (v : Float). HasValue v s ((hid f + t) * 2 ^ x) (2 ^ low f))
    (sym (cond_no (eqb (suc x) (ones f)) (cond (eqb t 0) (inf s) nan) (odd (prec f) s (hid f + t) x (low f)) other))
    (odd_sign (prec f) s (hid f + t) x (low f))

-- a field of all ones has no value
not_ones : (all none : Bool) (s u : Bool) (v : Float) (a c : ℕ) → HasValue (cond all (cond none (inf s) nan) v) u a c → all ≡ false
not_ones true true s u v a c x = absurd x
not_ones true false s u v a c x = absurd x
not_ones false none s u v a c x = refl

fields_finite : (f : Format) (s u : Bool) (x t a c : ℕ) → x < suc (ones f) → HasValue (of_fields f s x t) u a c → x < ones f
unfolding of_fields
fields_finite f s u zero t a c h v = omega arith
fields_finite f s u (suc x) t a c h v =
    let n = not_ones (eqb (suc x) (ones f)) (eqb t 0) s u (odd (prec f) s (hid f + t) x (low f)) a c v in
    below (suc x) (ones f) h (λ e. false≢true (sym n ∙ is_true (eqb (suc x) (ones f)) (eq→eqb e)))
  where
    below : (i n : ℕ) → i < suc n → (i ≡ n → ⊥) → i < n
    below i n p q = omega arith

-- ---- bits

-- the bits of a number that a format holds denote it
pub bits_denote : (f : Format) (v : Float) (x : Exact) → T (fits f v) → HasValue v x.minus x.size (2 ^ 152) → Denotes f (to_bits f v) x
bits_denote f v x h k =
    let b = to_bits f v in
    let it = of_fields f (sign_in f b) (field_in f b) (digits_in f b) in
    let is : it ≡ v = sym (fields_of f b) ∙ of_bits-to_bits f v h in
    let value : HasValue it x.minus x.size (2 ^ 152)
    = subst (λ (z : Float). HasValue z x.minus x.size (2 ^ 152)) (sym is) k in
    let some = fields_finite f (sign_in f b) x.minus (field_in f b) (digits_in f b) x.size (2 ^ 152) (field_most f b) value in
    let both = two_fractions it (sign_in f b) x.minus (size_in f b) (2 ^ low f) x.size (2 ^ 152)
    (fields_value f (sign_in f b) (field_in f b) (digits_in f b) some) value in
    record { within = to_bits-lt f v h; finite = some; sign = both.0; size = both.1 }

-- what bits denote is what they stand for
pub denoted_value : (f : Format) (b : ℕ) (x : Exact) → Denotes f b x → HasValue (of_bits f b) x.minus x.size (2 ^ 152)
denoted_value f b x d =
    let it = of_fields f (sign_in f b) (field_in f b) (digits_in f b) in
    subst (λ (v : Float). HasValue v x.minus x.size (2 ^ 152)) (sym (fields_of f b))
    (subst (λ (s : Bool). HasValue it s x.size (2 ^ 152)) d.sign
    (other_fraction it (sign_in f b) (size_in f b) (2 ^ low f) x.size (2 ^ 152) (pow_pos (low f)) (sym d.size)
    (fields_value f (sign_in f b) (field_in f b) (digits_in f b) d.finite)))
