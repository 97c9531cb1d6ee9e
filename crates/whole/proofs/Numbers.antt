-- What number a word holds, and what `fit` answers. `mag` is n for n and for -(n + 1): below 32768 for a whole number.
use Rattle.std.specs.Prelude.{Err, Ok}
use mathlib.Core.Path.{◌≡◌, refl, sym, ap, ◌∙◌}
use mathlib.Core.Logic.{◌⊎◌, inl, inr, ⊎_elim}
use mathlib.Core.Bool.{Bool, true, false}
use Prim.Native.Nat.{ℕ, zero, suc, ◌+◌, ◌-◌, ◌%◌, ◌≤◌, ◌<◌}
use native.Mathlib.Omega.{arith}
use borrow.Author.Tests.{lt-ltb, le-ltb, ltb-true, ltb-false}
use lib.IntN.{ℤ, pos, negsuc, neg_ℤ}
use lib.Signed.{mag}
use lib.Dec.{ltb}
use Rattle.whole.specs.declared.errors.Error.TheVariants.{Overflow}
use Rattle.whole.specs.Whole.{num, word, fit}

-- a number is less than another, or not
pub less : (a b : ℕ) → (a < b) ⊎ (b ≤ a)
less a b = go (ltb a b) refl
  where
    go : (t : Bool) → ltb a b ≡ t → (a < b) ⊎ (b ≤ a)
    go true e = inl (ltb-true a b e)
    go false e = inr (ltb-false a b e)

-- ---- words and numbers

-- a word below 32768 holds itself, any other a number below zero
pub num_low : (w : ℕ) → w < 32768 → num w ≡ pos w
unfolding num
num_low w h = simp (lt-ltb w 32768 h)

pub num_high : (w : ℕ) → 32768 ≤ w → w < 65536 → num w ≡ negsuc (65535 - w)
unfolding num
num_high w l h = simp (le-ltb w 32768 l, lt-ltb w 65536 h) (ap negsuc (omega arith))

-- so what holds of both kinds holds of each word's number
pub num_either : (P : ℤ → Type 0) (w : ℕ) → w < 65536 → (w < 32768 → P (pos w)) → (32768 ≤ w → P (negsuc (65535 - w))) → P (num w)
num_either P w h low high = ⊎_elim (λ l. rw (num_low w l) (low l)) (λ l. rw (num_high w l h) (high l)) (less w 32768)

-- a word's number is a whole number
pub num_small : (w : ℕ) → w < 65536 → mag (num w) < 32768
num_small w h = num_either (λ z. mag z < 32768) w h (λ l. l) (λ l. omega arith)

-- words and numbers go back and forth
pub word-num : (w : ℕ) → w < 65536 → word (num w) ≡ w
word-num w h = num_either (λ z. word z ≡ w) w h (λ l. refl) (λ l. omega arith)

pub num-word : (z : ℤ) → mag z < 32768 → num (word z) ≡ z
num-word (pos n) h = num_low n h
num-word (negsuc n) h = num_high (65535 - n) (omega arith) (omega arith) ∙ ap negsuc (omega arith)

-- two words hold the same number only where they are equal
pub num_injective : (v w : ℕ) → v < 65536 → w < 65536 → num v ≡ num w → v ≡ w
num_injective v w hv hw e = sym (word-num v hv) ∙ ap word e ∙ word-num w hw

-- ---- answers

-- a number from -32768 to 32767 is answered by its word
pub fit_in : (z : ℤ) → mag z < 32768 → fit z ≡ Ok (word z)
unfolding fit
fit_in (pos n) h = rw (le-ltb 32767 n (omega arith))
fit_in (negsuc n) h = rw (le-ltb 32767 n (omega arith))

-- any other is overflow
pub fit_out : (z : ℤ) → 32768 ≤ mag z → fit z ≡ Err Overflow
unfolding fit
fit_out (pos n) h = rw (lt-ltb 32767 n (omega arith))
fit_out (negsuc n) h = rw (lt-ltb 32767 n (omega arith))

-- the same of the number that is n below zero, by its word
pub fit_minus : (n w : ℕ) → n ≤ 32768 → (w + n) % 65536 ≡ 0 → w < 65536 → fit (neg_ℤ (pos n)) ≡ Ok w
fit_minus zero w l m h = fit_in (pos 0) (omega arith) ∙ ap Ok (omega arith)
fit_minus (suc n) w l m h = fit_in (negsuc n) (omega arith) ∙ ap Ok (omega arith)

pub fit_minus_out : (n : ℕ) → 32768 < n → fit (neg_ℤ (pos n)) ≡ Err Overflow
fit_minus_out zero h = absurd (omega arith)
fit_minus_out (suc n) h = fit_out (negsuc n) (omega arith)
