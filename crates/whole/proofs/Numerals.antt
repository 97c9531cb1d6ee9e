-- How a numeral grows: one digit where the number is below the base, else the digits of the quotient and then the last one.
-- And how a text in its buffer grows.
use mathlib.Core.Path.{◌≡◌, refl, sym, ap, ◌∙◌}
use mathlib.Core.Logic.{⊎_elim}
use mathlib.Core.List.{List, [], ◌∷◌, ◌++◌, map, map-append, append_assoc, append-nil}
use Prim.Native.Nat.{ℕ, zero, suc, ◌+◌, ◌-◌, ◌/◌, ◌%◌, ◌^◌, ◌≤◌, ◌<◌, zero-le, suc-le-suc}
use native.Mathlib.Nat.{le_refl, le_step, zero-div, zero-mod, div-eq_of_lt, mod-eq_of_lt, div-lt_iff_lt-mul, le-div_iff_mul-le, pow-zero, pow-suc}
use native.Mathlib.Omega.{arith}
use native.Mathlib.Numerals.{add-one}
use borrow.Author.Tests.{lt-ltb, ltb-true}
use lib.IntN.{ℤ, pos, negsuc, nat_abs}
use lib.Signed.{lt_z}
use mathlib.Core.Bool.{true, false}
use lib.ListN.{length, take, replicate, length-append, length-map, replicate-append-replicate}
use lib.Seq.{take-append_seam, set-append_seam, append_snoc}
use Rattle.whole.specs.declared.texts.Text.{Text}
use Rattle.whole.specs.Bytes.{blank}
use Rattle.whole.specs.Texts.{longest_string, held, with_byte, with_bytes, places, trimmed, digit_byte, numeral, sign_byte, signed_numeral}
use Rattle.whole.specs.Whole.{num}
use Rattle.whole.proofs.Numbers.{less}

-- ---- a text in its buffer

-- its bytes stand first
pub held_front : {t : Text} (l : List ℕ) → t ≡ held l → take t.len t.bytes ≡ l
unfolding held
held_front l e = rw e (take-append_seam l _)

-- and their number beside them
pub held_count : {t : Text} (l : List ℕ) → t ≡ held l → t.len ≡ length l
unfolding held
held_count l e = rw e

-- a byte more, where there is room
pub held_put : (l : List ℕ) (b : ℕ) → length l < longest_string → with_byte (held l) b ≡ held (l ++ (b ∷ []))
unfolding held with_byte
held_put l b h =
    let room : longest_string - length l ≡ suc (longest_string - (length l + 1)) = omega arith in
    rw (lt-ltb (length l) longest_string h, length-append l (b ∷ []), room, set-append_seam l 0, append_snoc l b)

-- as far as there is room, bytes stand after those before
pub held_bytes : (l s : List ℕ) → length l + length s ≤ longest_string → with_bytes (held l) s ≡ held (l ++ s)
unfolding with_bytes
held_bytes l [] h = ap held (sym (append-nil l))
held_bytes l (b ∷ s) h =
    ap (λ t. with_bytes t s) (held_put l b (omega arith))
    ∙ held_bytes (l ++ (b ∷ [])) s (omega (arith, length-append l (b ∷ [])))
    ∙ ap held (append_assoc l (b ∷ []) s)

-- bytes put one list after the other
with_bytes-append : (t : Text) (a b : List ℕ) → with_bytes t (a ++ b) ≡ with_bytes (with_bytes t a) b
unfolding with_bytes
with_bytes-append t [] b = refl
with_bytes-append t (x ∷ a) b = with_bytes-append (with_byte t x) a b

-- ---- numerals

-- digits that do not start with zero
record Starts (l : List ℕ) : Type 0 where
  first : ℕ
  rest : List ℕ
  is : l ≡ suc first ∷ rest

-- zeros before the last digit go
trim_zeros : (k d : ℕ) → trimmed (replicate k 0 ++ (d ∷ [])) ≡ d ∷ []
unfolding trimmed
trim_zeros zero d = refl
trim_zeros (suc zero) d = refl
trim_zeros (suc (suc k)) d = trim_zeros (suc k) d

-- a digit after others stays, be it zero
trim_more : (l : List ℕ) (d : ℕ) → Starts (trimmed l) → trimmed (l ++ (d ∷ [])) ≡ trimmed l ++ (d ∷ [])
unfolding trimmed
trim_more [] d s = let z = s.is in cc
trim_more (zero ∷ []) d s = let z = s.is in cc
trim_more (suc n ∷ []) d s = refl
trim_more (zero ∷ x ∷ l) d s = trim_more (x ∷ l) d s
trim_more (suc n ∷ x ∷ l) d s = refl

starts_more : (l : List ℕ) (d : ℕ) → Starts (trimmed l) → Starts (trimmed (l ++ (d ∷ [])))
starts_more l d s =
    record { first = s.first; rest = s.rest ++ (d ∷ []); is = trim_more l d s ∙ ap (λ r. r ++ (d ∷ [])) s.is }

trim_length : (l : List ℕ) → length (trimmed l) ≤ length l
unfolding trimmed
trim_length [] = zero-le
trim_length (d ∷ []) = le_refl 1
trim_length (zero ∷ d ∷ l) = le_step (trim_length (d ∷ l))
trim_length (suc n ∷ d ∷ l) = le_refl (suc (suc (length l)))

module _ (base : ℕ) where
  places_zero : (k : ℕ) → places base k 0 ≡ replicate k 0
  unfolding places
  places_zero zero = refl
  places_zero (suc k) = rw (zero-div base, zero-mod base, places_zero k) (replicate-append-replicate k 1 0 ∙ rw (add-one k))

  places-length : (k n : ℕ) → length (places base k n) ≡ k
  unfolding places
  places-length zero n = refl
  places-length (suc k) n = rw (length-append (places base k (n / base)), places-length k (n / base)) (add-one k)

  -- a numeral has at most so many digits as places
  pub numeral-length : (k n : ℕ) → length (numeral base k n) ≤ k
  unfolding numeral
  numeral-length k n = rw length-map (omega (arith, trim_length (places base k n), places-length k n))

  -- below the base there is one digit
  one_digit : (k n : ℕ) → n < base → trimmed (places base (suc k) n) ≡ n ∷ []
  unfolding places
  one_digit k n h = rw (div-eq_of_lt h, mod-eq_of_lt h, places_zero k) (trim_zeros k n)

  starts_one : (k n : ℕ) → 0 < n → n < base → Starts (trimmed (places base (suc k) n))
  starts_one k n z h =
      let e : n ≡ suc (n - 1) = omega arith in record { first = n - 1; rest = []; is = one_digit k n h ∙ ap (λ m. m ∷ []) e }

  module _ (two : 2 ≤ base) where
    -- the quotient of a number of more than one place has one place less, and is not 0
    quotient_fits : (k n : ℕ) → n < base ^ suc k → n / base < base ^ k
    quotient_fits k n h = (div-lt_iff_lt-mul {k = base} {x = n} {y = base ^ k} (omega arith)).1 (rw (pow-suc base k) at h)

    quotient_from : (n : ℕ) → base ≤ n → 0 < n / base
    quotient_from n h = (le-div_iff_mul-le {k = base} {x = 1} {y = n} (omega arith)).1 (omega arith)

    starts : (k n : ℕ) → 0 < n → n < base ^ k → Starts (trimmed (places base k n))
    unfolding places
    starts zero n z h = absurd (omega (arith, pow-zero base))
    starts (suc k) n z h =
        ⊎_elim (starts_one k n z)
        (λ l. starts_more (places base k (n / base)) (n % base) (starts k (n / base) (quotient_from n l) (quotient_fits k n h)))
        (less n base)

    -- a numeral is its number's one digit, or the quotient's numeral and one digit
    pub numeral_one : (k n : ℕ) → n < base → numeral base (suc k) n ≡ digit_byte n ∷ []
    unfolding numeral
    numeral_one k n h = ap (map digit_byte) (one_digit k n h)

    pub numeral_more : (k n : ℕ) → base ≤ n → n < base ^ suc k
        → numeral base (suc k) n ≡ numeral base k (n / base) ++ (digit_byte (n % base) ∷ [])
    unfolding numeral places
    numeral_more k n l h =
        let s = starts k (n / base) (quotient_from n l) (quotient_fits k n h) in
        rw (trim_more (places base k (n / base)) (n % base) s, map-append digit_byte)

    -- the same of a text with a numeral after it, as `put_numeral` makes it
    pub put_one : (t : Text) (k n : ℕ) → n < base → with_byte t (digit_byte (n % base)) ≡ with_bytes t (numeral base (suc k) n)
    unfolding with_bytes
    put_one t k n h = rw (numeral_one k n h, mod-eq_of_lt h)

    pub put_more : (t : Text) (k n : ℕ) (front : Text) → base ≤ n → n < base ^ suc k
        → ((j : ℕ) → n / base < base ^ suc j → front ≡ with_bytes t (numeral base (suc j) (n / base)))
        → with_byte front (digit_byte (n % base)) ≡ with_bytes t (numeral base (suc k) n)
    unfolding with_bytes
    put_more t zero n front m h f = absurd (omega (arith, quotient_fits 0 n h, quotient_from n m, pow-zero base))
    put_more t (suc j) n front m h f = rw (f j (quotient_fits (suc j) n h), numeral_more (suc j) n m h, with_bytes-append)

    -- as far as there is room, a numeral's digits stand after the bytes before
    pub held_numeral : (l : List ℕ) (k n : ℕ) → length l + k ≤ longest_string → with_bytes (held l) (numeral base k n) ≡ held (l ++ numeral base k n)
    held_numeral l k n h = held_bytes l (numeral base k n) (omega (arith, numeral-length k n))

-- ---- STR$: a minus for a number below zero, a blank for any other

pub shown_below : (z : ℤ) → lt_z z (pos 0) ≡ true → sign_byte z ≡ 45
shown_below (pos n) e = let h = ltb-true n 0 e in absurd (omega arith)
shown_below (negsuc n) e = refl

pub shown_above : (z : ℤ) → lt_z z (pos 0) ≡ false → sign_byte z ≡ blank
shown_above (pos n) e = refl
shown_above (negsuc n) e = cc

pub shown_length : (w : ℕ) → length (signed_numeral w) ≤ 6
unfolding signed_numeral
shown_length w = suc-le-suc (numeral-length 10 5 (nat_abs (num w)))
