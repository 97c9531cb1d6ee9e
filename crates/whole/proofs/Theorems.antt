-- Two theorems of the operators: NOT (A AND B) = NOT A OR NOT B, and A = (A \ B) * B + A MOD B.
use Rattle.std.specs.Prelude.{Err, Ok, Result, ℕ}
use Rattle.whole.specs.declared.errors.Error.{Error}
use mathlib.Core.Path.{◌≡◌, refl, sym, ap, ◌∙◌}
use mathlib.Core.Logic.{⊎_elim}
use Prim.Native.Nat.{ℕ, zero, suc, ◌+◌, ◌-◌, ◌*◌, ◌/◌, ◌%◌, ◌^◌, ◌≤◌, ◌<◌, zero-le, min, max}
use native.Mathlib.Nat.{pow-suc, zero-mul, div-add-mod', div-le_self, div-lt_self}
use native.Mathlib.Omega.{arith}
use borrow.Author.Tests.{ne_eqb}
use lib.Arith.{lt-one}
use lib.Bits.{bit_and, bit_or, and_step, or_step, and_lt}
use lib.IntN.{ℤ, pos, negsuc, ◌+ℤ◌, ◌*ℤ◌, neg_ℤ, neg_ℤ-+ℤ}
use lib.Signed.{mag, quot_z, rem_z, mag_rem}
use Rattle.whole.specs.declared.arithmetic.Operator.TheVariants.{Multiply, Divide, Modulo, Add, And, Or}
use Rattle.whole.specs.Whole.{num, word, applied, flipped}
use Rattle.whole.proofs.Numbers.{less, num_small, num-word, word-num, fit_in}

-- an error ends what follows
abbrev pub and_then : Result ℕ Error → (ℕ → Result ℕ Error) → Result ℕ Error
and_then (Ok w) f = f w
and_then (Err e) f = Err e

-- ---- NOT (A AND B) = NOT A OR NOT B

flip_half : (p a : ℕ) → a < p * 2 → (p * 2 - 1 - a) / 2 ≡ p - 1 - a / 2
flip_half p a h = omega arith

flip_odd : (p a : ℕ) → a < p * 2 → (p * 2 - 1 - a) % 2 ≡ 1 - a % 2
flip_odd p a h = omega arith

half : (p a : ℕ) → a < p * 2 → a / 2 < p
half p a h = omega arith

digit : (x y : ℕ) → x < 2 → y < 2 → min x y + max (1 - x) (1 - y) ≡ 1
digit x y hx hy = omega arith

join : (p n o u v : ℕ) → n < p → p - 1 - n ≡ o → u + v ≡ 1 → p * 2 - 1 - (n * 2 + u) ≡ o * 2 + v
join p n o u v h e d = omega arith

-- of numbers of k bits, a bit at a time
demorgan : (k a b : ℕ) → a < 2 ^ k → b < 2 ^ k → 2 ^ k - 1 - bit_and a b ≡ bit_or (2 ^ k - 1 - a) (2 ^ k - 1 - b)
demorgan zero a b ha hb = rw (lt-one ha, lt-one hb)
demorgan (suc k) a b ha hb =
    let p = 2 ^ k in
    let e = pow-suc 2 k in
    let ha' : a < p * 2 = rw e at ha in
    let hb' : b < p * 2 = rw e at hb in
    let hx = half p a ha' in
    let hy = half p b hb' in
    rw (e, and_step a b, or_step (p * 2 - 1 - a) (p * 2 - 1 - b), flip_half p a ha', flip_half p b hb', flip_odd p a ha', flip_odd p b hb')
    (join p _ _ _ _ (and_lt k (a / 2) (b / 2) hx hy) (demorgan k (a / 2) (b / 2) hx hy) (digit (a % 2) (b % 2) (omega arith) (omega arith)))

pub not_and : (a b : ℕ) → a < 65536 → b < 65536
    → and_then (applied And a b) (λ w. Ok (flipped w)) ≡ applied Or (flipped a) (flipped b)
not_and a b ha hb = ap Ok (demorgan 16 a b ha hb)

-- ---- A = (A \ B) * B + A MOD B, first of numbers

neg_mul : (q b : ℕ) → neg_ℤ (pos q) *ℤ pos b ≡ neg_ℤ (pos (q * b))
neg_mul zero b = simp zero-mul
neg_mul (suc q) b = refl

neg_mul_neg : (q b : ℕ) → neg_ℤ (pos q) *ℤ negsuc b ≡ pos (q * suc b)
neg_mul_neg zero b = simp zero-mul
neg_mul_neg (suc q) b = refl

neg_sum : (q b r n : ℕ) → q * b + r ≡ n → neg_ℤ (pos (q * b)) +ℤ neg_ℤ (pos r) ≡ neg_ℤ (pos n)
neg_sum q b r n e = sym (neg_ℤ-+ℤ (pos (q * b)) (pos r)) ∙ ap (λ k. neg_ℤ (pos k)) e

pub divided : (x y : ℤ) → quot_z x y *ℤ y +ℤ rem_z x y ≡ x
divided (pos a) (pos b) = ap pos (div-add-mod' a b)
divided (pos a) (negsuc b) = rw (neg_mul_neg (a / suc b) b) (ap pos (div-add-mod' a (suc b)))
divided (negsuc a) (pos b) = rw (neg_mul (suc a / b) b) (neg_sum (suc a / b) b (suc a % b) (suc a) (div-add-mod' (suc a) b))
divided (negsuc a) (negsuc b) = neg_sum (suc a / suc b) (suc b) (suc a % suc b) (suc a) (div-add-mod' (suc a) (suc b))

-- then of answers: each step stays in the range

mag_minus : (n m : ℕ) → n ≤ suc m → mag (neg_ℤ (pos n)) ≤ m
mag_minus zero m h = zero-le
mag_minus (suc n) m h = omega arith

quotient_in : (x y : ℤ) → mag x < 32768 → (x ≡ negsuc 32767 → y ≡ negsuc 0 → ⊥) → mag (quot_z x y) < 32768
quotient_in (pos a) (pos b) h n = omega (arith, div-le_self a b)
quotient_in (pos a) (negsuc b) h n = omega (arith, mag_minus (a / suc b) a (omega (arith, div-le_self a (suc b))))
quotient_in (negsuc a) (pos b) h n = omega (arith, mag_minus (suc a / b) a (div-le_self (suc a) b))
quotient_in (negsuc a) (negsuc zero) h n =
    ⊎_elim (λ l. omega (arith, div-le_self (suc a) 1)) (λ l. absurd (n (ap negsuc (omega arith)) refl)) (less a 32767)
quotient_in (negsuc a) (negsuc (suc b)) h n =
    let k : suc a / suc (suc b) < suc a = div-lt_self (omega arith) (omega arith) in omega arith

product_in : (x y : ℤ) → mag (quot_z x y *ℤ y) ≤ mag x
product_in (pos a) (pos b) = omega (arith, div-add-mod' a b)
product_in (pos a) (negsuc b) = rw (neg_mul_neg (a / suc b) b) (omega (arith, div-add-mod' a (suc b)))
product_in (negsuc a) (pos b) = rw (neg_mul (suc a / b) b) (mag_minus (suc a / b * b) a (omega (arith, div-add-mod' (suc a) b)))
product_in (negsuc a) (negsuc b) = mag_minus (suc a / suc b * suc b) a (omega (arith, div-add-mod' (suc a) (suc b)))

-- unless B is 0, or A is -32768 and B is -1
pub division : (a b : ℕ) → a < 65536 → b < 65536 → (b ≡ 0 → ⊥) → (a ≡ 0x8000 → b ≡ 0xFFFF → ⊥)
    → and_then (applied Divide a b) (λ q. and_then (applied Multiply q b) (λ p. and_then (applied Modulo a b) (applied Add p))) ≡ Ok a
division a b ha hb nz ne =
    let x = num a in
    let y = num b in
    let hx : mag x < 32768 = num_small a ha in
    let hq : mag (quot_z x y) < 32768 =
    quotient_in x y hx (λ p q. ne (sym (word-num a ha) ∙ ap word p) (sym (word-num b hb) ∙ ap word q)) in
    let hp : mag (quot_z x y *ℤ y) < 32768 = omega (arith, product_in x y) in
    let hr : mag (rem_z x y) < 32768 = omega (arith, mag_rem x y) in
    rw (
      ne_eqb b 0 nz,
      fit_in (quot_z x y) hq,
      num-word (quot_z x y) hq,
      fit_in (quot_z x y *ℤ y) hp,
      fit_in (rem_z x y) hr,
      num-word (quot_z x y *ℤ y) hp,
      num-word (rem_z x y) hr,
      divided x y,
      fit_in x hx,
      word-num a ha,
    )
