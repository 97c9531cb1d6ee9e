-- Which numbers a single holds, by the exponent: the rule of the paper. And that the sign does not matter to it.
use mathlib.Core.Path.{◌≡◌, refl, sym, ap, ◌∙◌, subst}
use mathlib.Core.Bool.{Bool, true, false, not, ◌&&◌}
use Prim.Native.Nat.{ℕ, zero, suc, ◌+◌, ◌-◌, ◌*◌, ◌/◌, ◌%◌, ◌^◌, ◌≤◌, ◌<◌}
use native.Mathlib.Nat.{lt_of_lt_of_le, le_trans, le_of_lt, le_of_eq, not-le_of_lt, mul-one, one-mul, mul_assoc, mul-mod_left, eq_of_mul-eq-mul_right}
use native.Mathlib.Omega.{arith}
use lib.IntN.{ℤ, pos, negsuc}
use lib.Count.{count_trailing_zeros}
use lib.Dec.{T, leb, ltb, eqb, leb→le, eqb→eq, lit≤}
use lib.Ieee.{Float, nan, inf, fin, Format, binary32, binary64, up, down, minus, odd, neg, fits, is_nan}
use lib.Ieee.Bits.{is_true}
use lib.Ieee.Exact.{HasValue, odd_sign}
use lib.Ieee.Fits.{odd-fits, and_l, and_r, eq→eqb}
use lib.Pow.{pow-add, pow_pos, pow_mono, pow-lt, shl_lt}
use Rattle.readings.proofs.Products.{same_test, unique, odd_shift, fits64}

-- ---- what a single holds

-- a number of 24 digits times a power that a single has
pub single_fits : (s : Bool) (n e q j : ℕ) → n < 16777216 → q < 16777216 → e ≤ 255 → j ≤ 252 → n * 2 ^ e ≡ q * 2 ^ (j + 3)
    → T (fits binary32 (odd 24 s n e 152))
single_fits s n e q j N Q E J h =
    subst (λ (z : Float). T (fits binary32 z))
    (sym
    (unique binary64 (odd 24 s n e 152) (odd 24 s q (j + 3) 152) s (n * 2 ^ e) (2 ^ 152) (pow_pos 152) (fits64 s n e N E) (fits64 s q (j + 3) Q (omega arith)) (odd_sign 24 s n e 152)
    (subst (λ (z : ℕ). HasValue (odd 24 s q (j + 3) 152) s z (2 ^ 152)) (sym h) (odd_sign 24 s q (j + 3) 152))
    ∙ odd_shift 24 s q j 149 3))
    (odd-fits binary32 24 s q j Q (le_of_lt Q) (lt_of_lt_of_le (shl_lt {a = q} 24 j Q) (pow_mono {i = 24 + j} {j = 277} (omega arith))))

-- a single goes down to 2 to the power -149
down_le : (s : Bool) (m : ℕ) (e : ℤ) → T (fits binary32 (fin s m e)) → down e ≤ 2 ^ 149
unfolding fits
down_le s zero (pos k) p = lit≤ tt
down_le s zero (negsuc k) p = le_trans (le_of_eq (sym (one-mul (2 ^ suc k)) ∙ eqb→eq (1 * 2 ^ suc k) 1 p)) (lit≤ tt)
down_le s (suc m) e p =
    leb→le (down e) (2 ^ 149)
    (and_r (eqb (suc m % 2) 1 && ltb (suc m) (2 ^ 24)) (leb (down e) (2 ^ 149)) (and_l (eqb (suc m % 2) 1 && ltb (suc m) (2 ^ 24) && leb (down e) (2 ^ 149)) (ltb (suc m * up e) (2 ^ 128 * down e)) p))

-- the last place of a single is eight times 2 to the power -152: so a value that it holds is a multiple of eight
by_eight : (a q : ℕ) → a ≡ q * 8 → a % 8 ≡ 0
by_eight a q h = ap (λ (z : ℕ). z % 8) h ∙ mul-mod_left q 8

eight : (x : Float) (s : Bool) (a : ℕ) → T (fits binary32 x) → HasValue x s a (2 ^ 152) → a % 8 ≡ 0
eight nan s a p v = absurd v
eight (inf t) s a p v = absurd v
eight (fin t m (pos k)) s a p v =
    by_eight a (m * 2 ^ k * 2 ^ 149)
    (sym (mul-one a) ∙ sym v.1 ∙ ap (λ (z : ℕ). m * 2 ^ k * z) (pow-add 2 149 3) ∙ sym (mul_assoc (m * 2 ^ k) (2 ^ 149) 8))
eight (fin t m (negsuc k)) s a p v =
    let le : suc k ≤ 149 = lt_of_not_le_suc (λ (g : 149 < suc k). not-le_of_lt (pow-lt g) (down_le t m (negsuc k) p)) in
    let r = 149 - suc k in
    let e : 2 ^ 152 ≡ 2 ^ r * 8 * 2 ^ suc k = ap (λ (z : ℕ). 2 ^ z) (sum le) ∙ pow-add 2 (r + 3) (suc k)
    ∙ ap (λ (z : ℕ). z * 2 ^ suc k) (pow-add 2 r 3) in
    by_eight a (m * 1 * 2 ^ r)
    (eq_of_mul-eq-mul_right (2 ^ suc k) (pow_pos (suc k)) a (m * 1 * 2 ^ r * 8)
    (sym v.1 ∙ ap (λ (z : ℕ). m * 1 * z) e ∙ sym (mul_assoc (m * 1) (2 ^ r * 8) (2 ^ suc k)) ∙ ap (λ (z : ℕ). z * 2 ^ suc k) (sym (mul_assoc (m * 1) (2 ^ r) 8))))
  where
    lt_of_not_le_suc : (149 < suc k → ⊥) → suc k ≤ 149
    lt_of_not_le_suc f = omega arith

    sum : suc k ≤ 149 → 152 ≡ 149 - suc k + 3 + suc k
    sum h = omega arith

pub single_only : (s : Bool) (n e : ℕ) → T (fits binary32 (odd 24 s n e 152)) → n * 2 ^ e % 8 ≡ 0
single_only s n e p = eight (odd 24 s n e 152) s (n * 2 ^ e) p (odd_sign 24 s n e 152)

-- ---- the sign

fits-fin : (f : Format) (s t : Bool) (m : ℕ) (e : ℤ) → fits f (fin s m e) ≡ fits f (fin t m e)
unfolding fits
fits-fin f s t zero e = refl
fits-fin f s t (suc m) e = refl

pub fits_sign : (f : Format) (s t : Bool) (d q k l : ℕ) → fits f (odd d s q k l) ≡ fits f (odd d t q k l)
unfolding odd
fits_sign f s t d zero k l = fits-fin f s t zero (pos zero)
fits_sign f s t d (suc q) k l = fits-fin f s t (suc q / 2 ^ count_trailing_zeros d (suc q)) (minus (k + count_trailing_zeros d (suc q)) l)

pub negated : (d q k l : ℕ) → neg (odd d false q k l) ≡ odd d true q k l
unfolding odd neg
negated d zero k l = refl
negated d (suc q) k l = refl

pub no_nan : (d : ℕ) (s : Bool) (q k l : ℕ) → T (not (is_nan (odd d s q k l)))
unfolding odd is_nan
no_nan d s zero k l = tt
no_nan d s (suc q) k l = tt

-- ---- the rule of the paper

-- an exponent of 3 or more: always
pub from_three : (n e : ℕ) → n < 16777216 → 3 ≤ e → e ≤ 255 → true ≡ fits binary32 (odd 24 false n e 152)
from_three n e N h k =
    let z : e ≡ e - 3 + 3 = omega arith in
    sym (is_true (fits binary32 (odd 24 false n e 152)) (single_fits false n e n (e - 3) N N k (omega arith) (ap (λ (x : ℕ). n * 2 ^ x) z)))

-- an exponent of 2: when even
pub at_two : (n : ℕ) → n < 16777216 → eqb (n % 2) 0 ≡ fits binary32 (odd 24 false n 2 152)
at_two n N =
    same_test (eqb (n % 2) 0) (fits binary32 (odd 24 false n 2 152))
    (λ t. single_fits false n 2 (n / 2) 0 N (omega arith) (lit≤ tt) (lit≤ tt) (go (eqb→eq (n % 2) 0 t)))
    (λ p. eq→eqb (back (single_only false n 2 p)))
  where
    go : n % 2 ≡ 0 → n * 4 ≡ n / 2 * 8
    go h = omega arith

    back : n * 4 % 8 ≡ 0 → n % 2 ≡ 0
    back h = let z : n ≡ n * 4 / 8 * 2 = omega arith in ap (λ (x : ℕ). x % 2) z ∙ mul-mod_left (n * 4 / 8) 2

-- an exponent of 1: when a multiple of 4
pub at_one : (n : ℕ) → n < 16777216 → eqb (n % 4) 0 ≡ fits binary32 (odd 24 false n 1 152)
at_one n N =
    same_test (eqb (n % 4) 0) (fits binary32 (odd 24 false n 1 152))
    (λ t. single_fits false n 1 (n / 4) 0 N (omega arith) (lit≤ tt) (lit≤ tt) (go (eqb→eq (n % 4) 0 t)))
    (λ p. eq→eqb (back (single_only false n 1 p)))
  where
    go : n % 4 ≡ 0 → n * 2 ≡ n / 4 * 8
    go h = omega arith

    back : n * 2 % 8 ≡ 0 → n % 4 ≡ 0
    back h = let z : n ≡ n * 2 / 8 * 4 = omega arith in ap (λ (x : ℕ). x % 4) z ∙ mul-mod_left (n * 2 / 8) 4
