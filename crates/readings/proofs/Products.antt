-- A number of 24 binary digits times a power of two, in the format of a double: each product of the code is exact.
use mathlib.Core.Path.{◌≡◌, refl, sym, ap, ◌∙◌, subst}
use mathlib.Core.Bool.{Bool, true, false, cond}
use Prim.Native.Nat.{ℕ, zero, suc, ◌+◌, ◌-◌, ◌*◌, ◌/◌, ◌^◌, ◌≤◌, ◌<◌}
use native.Mathlib.Nat.{lt_of_lt_of_le, le_of_lt, mul-one, one-mul, mul_comm, mul_assoc, mul_left_comm, mul-pos, eq_of_mul-eq-mul_right}
use native.Mathlib.Omega.{arith}
use lib.IntN.{ℤ, pos, negsuc}
use lib.Count.{count_trailing_zeros}
use lib.Dec.{T, leb, le→leb, leb→le, lit<, lit≤}
use lib.Ieee.{Float, nan, inf, fin, Format, binary64, prec, low, up, down, minus, size, odd, round, mul, of_int, fits, hid, top, to_bits, of_bits}
use lib.Ieee.Back.{round_whole}
use lib.Ieee.Bits.{of_bits-to_bits}
use lib.Ieee.Exact.{HasValue, odd_sign, round_exact}
use lib.Ieee.Fits.{odd-fits, round-fits, down_pos}
use lib.Ieee.Nearest.{div_same}
use lib.Ieee.Positive.{mul_at, positive_of_value}
use lib.Ieee.Scale.{round_same}
use lib.Pow.{pow-add, pow_pos, pow_mono, shl_lt}

-- two tests of which each makes the other hold are the same
pub same_test : (a b : Bool) → (T a → T b) → (T b → T a) → a ≡ b
same_test true true p q = refl
same_test true false p q = absurd (p tt)
same_test false true p q = absurd (q tt)
same_test false false p q = refl

-- ---- a value that a format holds is known by its sign and its size

-- the bits of a value, from its sign and its size
bits_of : Format → Bool → ℕ → ℕ
bits_of f s n = cond s (top f) 0 + (size n - prec f) * hid f + n / 2 ^ (size n - prec f)

bits_are : (f : Format) (s : Bool) (m : ℕ) (e : ℤ) → to_bits f (fin s m e) ≡ bits_of f s (m * up e * 2 ^ low f / down e)
unfolding to_bits bits_of
bits_are f s m e = refl

-- two fractions of one value are equal, crosswise
cross : (x y u v a c l : ℕ) → 0 < c → x * c ≡ a * u → y * c ≡ a * v → x * l * v ≡ y * l * u
cross x y u v a c l C h k =
    eq_of_mul-eq-mul_right c C (x * l * v) (y * l * u)
    (the_left ∙ ap (λ (z : ℕ). z * (l * v)) h ∙ middle ∙ ap (λ (z : ℕ). z * (l * u)) (sym k) ∙ the_right)
  where
    the_left : x * l * v * c ≡ x * c * (l * v)
    the_left = simp (mul_assoc, mul_comm, mul_left_comm)

    middle : a * u * (l * v) ≡ a * v * (l * u)
    middle = simp (mul_assoc, mul_comm, mul_left_comm)

    the_right : y * c * (l * u) ≡ y * l * u * c
    the_right = simp (mul_assoc, mul_comm, mul_left_comm)

-- two numbers that a format holds, of one sign and one value, are the same
pub unique : (f : Format) (x y : Float) (s : Bool) (a c : ℕ) → 0 < c → T (fits f x) → T (fits f y) → HasValue x s a c
    → HasValue y s a c → x ≡ y
unique f nan y s a c C p q v w = absurd v
unique f (inf t) y s a c C p q v w = absurd v
unique f (fin t m e) nan s a c C p q v w = absurd w
unique f (fin t m e) (inf u) s a c C p q v w = absurd w
unique f (fin t m e) (fin u n d) s a c C p q v w =
    sym (of_bits-to_bits f (fin t m e) p)
    ∙ ap (of_bits f)
    (bits_are f t m e
    ∙ ap (λ (z : Bool). bits_of f z (m * up e * 2 ^ low f / down e)) (v.0 ∙ sym w.0)
    ∙ ap (bits_of f u) (div_same (m * up e * 2 ^ low f) (down e) (n * up d * 2 ^ low f) (down d) (down_pos e) (down_pos d) (cross (m * up e) (n * up d) (down e) (down d) a c (2 ^ low f) C v.1 w.1))
    ∙ sym (bits_are f u n d))
    ∙ of_bits-to_bits f (fin u n d) q

-- ---- the same power of two above and below

minus_shift : (a b c : ℕ) → minus (a + c) (b + c) ≡ minus a b
minus_shift a b c =
    let e1 : leb (b + c) (a + c) ≡ leb b a = same_test (leb (b + c) (a + c)) (leb b a)
    (λ t. le→leb b a (less (leb→le (b + c) (a + c) t))) (λ t. le→leb (b + c) (a + c) (more (leb→le b a t))) in
    let e2 : a + c - (b + c) ≡ a - b = omega arith in
    let e3 : b + c - suc (a + c) ≡ b - suc a = omega arith in
    λ i. cond (e1 i) (pos (e2 i)) (negsuc (e3 i))
  where
    less : b + c ≤ a + c → b ≤ a
    less h = omega arith

    more : b ≤ a → b + c ≤ a + c
    more h = omega arith

pub odd_shift : (d : ℕ) (s : Bool) (q k l c : ℕ) → odd d s q (k + c) (l + c) ≡ odd d s q k l
unfolding odd
odd_shift d s zero k l c = refl
odd_shift d s (suc q) k l c =
    let t = count_trailing_zeros d (suc q) in
    let e : k + c + t ≡ k + t + c = omega arith in
    ap (fin s (suc q / 2 ^ t)) (ap (λ (z : ℕ). minus z (l + c)) e ∙ minus_shift (k + t) l c)

-- ---- n times 2 to the power t - 152, for an n of at most 24 digits and a t up to 255

module _ (s : Bool) (n t : ℕ) (N : n < 16777216) (t-le : t ≤ 255) where
  room : n * 2 ^ (t + 922) < 2 ^ 2098
  room = lt_of_lt_of_le (shl_lt {a = n} 24 (t + 922) N) (pow_mono {i = 24 + (t + 922)} {j = 2098} (omega arith))

  small : n < 2 ^ 53
  small = lt_of_lt_of_le N (lit≤ tt)

  pub fits64 : T (fits binary64 (odd 24 s n t 152))
  fits64 =
      subst (λ (z : Float). T (fits binary64 z)) (odd_shift 24 s n t 152 922)
      (odd-fits binary64 24 s n (t + 922) N (le_of_lt small) room)

  pub rounded : round binary64 s (n * 2 ^ t) (2 ^ 152) ≡ odd 24 s n t 152
  rounded =
      unique binary64 (round binary64 s (n * 2 ^ t) (2 ^ 152)) (odd 24 s n t 152) s (n * 2 ^ t) (2 ^ 152) (pow_pos 152)
      (round-fits binary64 s (n * 2 ^ t) (2 ^ 152)) fits64
      (round_exact binary64 s (n * 2 ^ t) (2 ^ 152) n (t + 922) (pow_pos 152) small room
      (ap (λ (z : ℕ). n * 2 ^ t * z) (pow-add 2 922 152) ∙ sym (mul_assoc (n * 2 ^ t) (2 ^ 922) (2 ^ 152)) ∙ ap (λ (z : ℕ). z * 2 ^ 152) (mul_assoc n (2 ^ t) (2 ^ 922) ∙ ap (λ (z : ℕ). n * z) (sym (pow-add 2 t 922)))))
      (odd_sign 24 s n t 152)

-- ---- the products of the code

module _ (n t : ℕ) (P : 0 < n) (N : n < 16777216) (t-le : t ≤ 255) where
  product : (x y : Float) (a c b d : ℕ) → HasValue x false a c → HasValue y false b d → 0 < a → 0 < b → 0 < c → 0 < d
      → a * b * 2 ^ 152 ≡ n * 2 ^ t * (c * d) → mul binary64 x y ≡ odd 24 false n t 152
  product x y a c b d v w A B C D h =
      mul_at binary64 x y a c b d (positive_of_value x a c v A) (positive_of_value y b d w B) C D v w
      ∙ round_same binary64 false (a * b) (c * d) (n * 2 ^ t) (2 ^ 152) (mul-pos C D) (pow_pos 152) h
      ∙ rounded false n t N t-le

-- the mantissa times the smallest power of two
pub first : (n : ℕ) → 0 < n → n < 16777216 → mul binary64 (of_int binary64 (pos n)) (fin false 1 (negsuc 151)) ≡ odd 24 false n 0 152
unfolding of_int
first n P N =
    product n 0 P N (lit≤ tt) (round binary64 false n 1) (fin false 1 (negsuc 151)) n 1 1 (2 ^ 152)
    (round_whole binary64 false n (le_of_lt (lt_of_lt_of_le N (lit≤ tt)))) (refl, refl) P (lit< tt) (lit< tt) (pow_pos 152)
    (ap (λ (z : ℕ). z * 2 ^ 152) refl)

-- a product so far, times a power of two more
pub step : (n t j : ℕ) → 0 < n → n < 16777216 → t + j ≤ 255
    → mul binary64 (odd 24 false n t 152) (fin false 1 (pos j)) ≡ odd 24 false n (t + j) 152
step n t j P N h =
    product n (t + j) P N h (odd 24 false n t 152) (fin false 1 (pos j)) (n * 2 ^ t) (2 ^ 152) (2 ^ j) 1 (odd_sign 24 false n t 152)
    (refl, ap (λ (z : ℕ). z * 1) (one-mul (2 ^ j))) (mul-pos P (pow_pos t)) (pow_pos j) (pow_pos 152) (lit< tt)
    (ap (λ (z : ℕ). z * 2 ^ 152) (mul_assoc n (2 ^ t) (2 ^ j) ∙ ap (λ (z : ℕ). n * z) (sym (pow-add 2 t j))) ∙ ap (λ (z : ℕ). n * 2 ^ (t + j) * z) (sym (mul-one (2 ^ 152))))
