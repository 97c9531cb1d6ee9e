-- How large a result is: it fits the 32 bits in which the code works, so that the code works on the numbers themselves.
use Rattle.std.specs.Prelude.{Result, Ok, Err, ℕ}
use Rattle.whole.specs.declared.errors.Error.{Error}
use Rattle.whole.specs.declared.errors.Error.TheVariants.{Overflow}
use borrow.Author.Tests.{lt-ltb, le-ltb}
use mathlib.Core.Logic.{⊎_elim}
use mathlib.Core.Path.{◌≡◌, refl, sym, ap, ap₂, ◌∙◌}
use mathlib.Core.Bool.{Bool, true, false, cond}
use Prim.Native.Nat.{ℕ, zero, suc, ◌+◌, ◌-◌, ◌*◌, ◌/◌, ◌^◌, ◌≤◌, ◌<◌, zero-le}
use native.Mathlib.Nat.{le_refl, le_trans, div-le_self, mul-le-mul}
use native.Mathlib.Omega.{arith}
use lib.IntN.{ℤ, pos, negsuc, sub_ℕ, ◌+ℤ◌, ◌-ℤ◌, ◌*ℤ◌, neg_ℤ, nat_abs}
use lib.Signed.{mag, quot_z, nat_abs-le}
use lib.Dec.{ltb}
use Rattle.std.specs.Int.{int_signum}
use mir.Syntax.{w16, w32}
use mir.Val.{Fits, SFits, to_z, of_z}
use mir.Facts.{to_z-of_z}
use Rattle.whole.specs.Whole.{num, word, fit, sign_of}
use Rattle.whole.specs.bridge.Wide.{back}
use Rattle.whole.proofs.Numbers.{less, num_low, num_high, num_either, num_small, fit_in, fit_out}

-- ---- how large a result is

-- of -x, -n, a difference, a sum, a product, a quotient
pub mag_neg : (x : ℤ) → mag (neg_ℤ x) ≤ mag x + 1
mag_neg (pos zero) = zero-le
mag_neg (pos (suc n)) = omega arith
mag_neg (negsuc n) = omega arith

mag_minus : (n : ℕ) → mag (neg_ℤ (pos n)) ≤ n
mag_minus zero = zero-le
mag_minus (suc n) = omega arith

mag_either : (t : Bool) (x y : ℤ) {n : ℕ} → mag x ≤ n → mag y ≤ n → mag (cond t x y) ≤ n
mag_either true x y p q = p
mag_either false x y p q = q

mag_sub : (a b : ℕ) {n : ℕ} → a ≤ n → b ≤ n → mag (sub_ℕ a b) ≤ n
mag_sub a b p q = mag_either (ltb a b) (negsuc (b - suc a)) (pos (a - b)) (omega arith) (omega arith)

pub mag_add : (x y : ℤ) → mag (x +ℤ y) ≤ mag x + mag y + 1
mag_add (pos a) (pos b) = omega arith
mag_add (pos a) (negsuc b) = mag_sub a (suc b) (omega arith) (omega arith)
mag_add (negsuc a) (pos b) = mag_sub b (suc a) (omega arith) (omega arith)
mag_add (negsuc a) (negsuc b) = omega arith

mag_mul : (x y : ℤ) → mag (x *ℤ y) ≤ nat_abs x * nat_abs y
mag_mul (pos a) (pos b) = le_refl (a * b)
mag_mul (pos a) (negsuc b) = mag_minus (a * suc b)
mag_mul (negsuc a) (pos b) = mag_minus (suc a * b)
mag_mul (negsuc a) (negsuc b) = le_refl (suc a * suc b)

mag_quot : (x y : ℤ) → mag (quot_z x y) ≤ nat_abs x
mag_quot (pos a) (pos b) = div-le_self a b
mag_quot (pos a) (negsuc b) = le_trans (mag_minus (a / suc b)) (div-le_self a (suc b))
mag_quot (negsuc a) (pos b) = le_trans (mag_minus (suc a / b)) (div-le_self (suc a) b)
mag_quot (negsuc a) (negsuc b) = div-le_self (suc a) (suc b)

-- an operation whose results on whole numbers fit 32 bits
abbrev pub Small : (ℤ → ℤ → ℤ) → Type 0
Small op = (x y : ℤ) → mag x < 32768 → mag y < 32768 → mag (op x y) < 2 ^ 31

-- and so are all of the operators
pub add_small : Small ◌+ℤ◌
add_small x y p q = omega (arith, mag_add x y)

pub sub_small : Small ◌-ℤ◌
sub_small x y p q = omega (arith, mag_add x (neg_ℤ y), mag_neg y)

pub mul_small : Small ◌*ℤ◌
mul_small x y p q =
    let h : nat_abs x * nat_abs y ≤ 32768 * 32768 = mul-le-mul (nat_abs-le x p) (nat_abs-le y q) in omega (arith, mag_mul x y)

pub quot_small : Small quot_z
quot_small x y p q = omega (arith, mag_quot x y, nat_abs-le x p)

-- ---- a number in 32 bits

pub back_is : (z : ℤ) → mag z < 2 ^ 31 → back z ≡ z
back_is z h = to_z-of_z {w = w32} {z = z} (record { sfits = h })

-- the 16 bits of a word, read as signed, are its number
pub signed_num : (w : ℕ) → w < 65536 → to_z w16 w ≡ num w
signed_num w h =
    ⊎_elim (λ l. simp (lt-ltb w 32768 l) (sym (num_low w l)))
    (λ l. let bits : 65536 - suc w ≡ 65535 - w = omega arith in simp (le-ltb w 32768 l, bits) (sym (num_high w l h))) (less w 32768)

-- what 16 bits hold as signed comes back from them, and they are its word
pub signed_back : (z : ℤ) → mag z < 32768 → to_z w16 (of_z w16 z) ≡ z
signed_back z h = to_z-of_z {w = w16} {z = z} (record { sfits = h })

pub signed_word : (z : ℤ) → mag z < 32768 → of_z w16 z ≡ word z
signed_word (pos n) h = refl
signed_word (negsuc n) h = omega arith

-- so what 16 bits do not hold is overflow, and what they hold is answered by its bits
pub fitted_out : (z : ℤ) → SFits w32 z → (SFits w16 (back z) → ⊥) → fit z ≡ Err Overflow
fitted_out z r none = ⊎_elim (λ l. absurd (none (rw (to_z-of_z r) (record { sfits = l })))) (λ l. fit_out z l) (less (mag z) 32768)

pub fitted_in : (z n : ℤ) (w : ℕ) → SFits w32 z → SFits w16 (back z) → n ≡ back z → w ≡ of_z w16 (to_z w16 (of_z w16 n)) → fit z ≡ Ok w
fitted_in z n w r fits e i =
    let small = (rw (to_z-of_z r) at fits).sfits in
    let told : n ≡ z = e ∙ to_z-of_z r in
    rw (i, told, signed_back z small, signed_word z small) (fit_in z small)

-- of its sign, too
pub sign_back : (z : ℤ) → mag (sign_of z) < 32768
sign_back (pos zero) = omega arith
sign_back (pos (suc n)) = omega arith
sign_back (negsuc n) = omega arith

pub sign_same : (z : ℤ) → int_signum z ≡ sign_of z
sign_same (pos zero) = refl
sign_same (pos (suc n)) = ap pos (omega arith)
sign_same (negsuc n) = refl

-- x is the number of a word
pub record Of (w : ℕ) (x : ℤ) : Type 0 where
  pub fits : Fits w16 w
  pub is : x ≡ num w

-- so it is small, and is read back
small : {w : ℕ} {x : ℤ} → Of w x → mag (num w) < 32768
small {w} o = num_small w o.fits.fits

back-num : {w : ℕ} {x : ℤ} → Of w x → back x ≡ num w
back-num {w} o = ap back o.is ∙ back_is (num w) (omega (arith, small o))

pub read_back : {a b : ℕ} {x y : ℤ} → Of a x × Of b y → Of a (back x) × Of b (back y)
read_back s = (record { fits = s.0.fits; is = back-num s.0 }, record { fits = s.1.fits; is = back-num s.1 })

-- of the two sides of an operator
module _ {a b : ℕ} {x y : ℤ} (sides : Of a x × Of b y) where
  module _ (op : ℤ → ℤ → ℤ) (s : Small op) where
    within : mag (op (num a) (num b)) < 2 ^ 31
    within = s (num a) (num b) (small sides.0) (small sides.1)

    -- an operation fits 32 bits, and is answered as on the numbers
    pub op_fits : SFits w32 (op (back x) (back y))
    op_fits = rw (back-num sides.0, back-num sides.1) (record { sfits = within })

    op_back : back (op (back x) (back y)) ≡ op (num a) (num b)
    op_back = ap back (ap₂ op (back-num sides.0) (back-num sides.1)) ∙ back_is (op (num a) (num b)) within

    pub op_ends : {ans : Result ℕ Error} → ans ≡ fit (back (op (back x) (back y))) → ans ≡ fit (op (num a) (num b))
    op_ends e = e ∙ ap fit op_back

    -- where a function of its own works it out
    pub call_ends : {q : ℤ} → q ≡ back (op (back x) (back y)) → {ans : Result ℕ Error} → ans ≡ fit (back q) → ans ≡ fit (op (num a) (num b))
    call_ends f e = e ∙ ap fit (ap back (f ∙ op_back) ∙ back_is (op (num a) (num b)) within)

-- the number of a word that is not 0 is a divisor
pub divisor : {w : ℕ} {x : ℤ} → Of w x → (w ≡ 0 → ⊥) → 0 < of_z w32 x
divisor {w} o n = rw o.is (num_either (λ z. 0 < of_z w32 z) w o.fits.fits (λ l. omega arith) (λ l. omega arith))
