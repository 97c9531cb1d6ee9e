-- How bytes are read one at a time: those that pass a test, the digits among them, and what digits are worth.
use Rattle.std.specs.Prelude.{None, Option, Some, SomeIff}
use mathlib.Core.Path.{◌≡◌, refl, sym, ap, ◌∙◌}
use mathlib.Core.Logic.{⊎_elim}
use mathlib.Core.Bool.{Bool, true, false, cond, ◌&&◌}
use mathlib.Core.List.{List, [], ◌∷◌, ◌++◌, append_assoc, append-nil}
use Prim.Native.Nat.{ℕ, suc, ◌+◌, ◌-◌, ◌*◌, ◌≤◌, ◌<◌, zero-le, suc-le-suc}
use native.Mathlib.Omega.{arith}
use native.Mathlib.Numerals.{add-one}
use borrow.Author.Tests.{lt-ltb, le-leb, lt-leb, leb-true, eq-eqb, ne_eqb}
use lib.Dec.{leb, eqb, eqb-zero-suc, eqb-suc-suc}
use lib.IntN.{pos, neg_ℤ}
use lib.ListN.{length, get_or, take, drop, length-drop, drop_of_length-le}
use lib.Seq.{drop-cons, take-suc, take_all, length-take-le}
use Rattle.std.specs.List.{list_all, take_while}
use Rattle.std.proofs.lemmas.List.Sums.{take_while-cons}
use Rattle.whole.specs.Bytes.{leading}
use Rattle.whole.specs.Whole.{fit}
use Rattle.whole.specs.Digits.{is_digit, leading_digits, value_from, leading_value, capped, digits_of, digits_only, blanks_of, val_of, signed_value}
use Rattle.whole.specs.declared.digits.Digits.{Digits}
use Rattle.whole.proofs.Numbers.{less}
use Rattle.whole.proofs.Never.{never}

-- ---- the bytes at the front that pass a test

-- the bytes from a place on are the one that stands there and those after it
pub drop_next : (s : List ℕ) (i : ℕ) → i < length s → drop i s ≡ get_or s i 0 ∷ drop (i + 1) s
drop_next s i h = rw (add-one, drop-cons s i 0)

-- the bytes up to a place and the one that stands there
pub take_next : (s : List ℕ) (i : ℕ) → i < length s → take (i + 1) s ≡ take i s ++ (get_or s i 0 ∷ [])
take_next s i h = rw (add-one, take-suc s i 0)

-- a part that goes to the end, as the code takes it
pub part_from : (s : List ℕ) (i : ℕ) → take (length s - i) (drop i s) ≡ drop i s
part_from s i = take_all (length s - i) (drop i s) (omega (arith, length-drop i s))

module _ (test : ℕ → Bool) where
  cond_inside : (t : Bool) (b : ℕ) (l : List ℕ) {n : ℕ} → length l ≤ n → length (cond t (b ∷ l) []) ≤ suc n
  cond_inside true b l h = suc-le-suc h
  cond_inside false b l h = zero-le

  -- the library's `take_while` finds them
  pub leading_while : (s : List ℕ) → leading test s ≡ take_while test s
  unfolding leading
  leading_while [] = refl
  leading_while (b ∷ s) = rw (leading_while s) (sym (take_while-cons test b s))

  -- they are bytes of the text
  pub leading_inside : (s : List ℕ) → length (leading test s) ≤ length s
  unfolding leading
  leading_inside [] = zero-le
  leading_inside (b ∷ s) = cond_inside (test b) b (leading test s) (leading_inside s)

  -- where all bytes pass they are as many
  pub leading_all : (s : List ℕ) → eqb (length (leading test s)) (length s) ≡ list_all test s
  unfolding leading
  leading_all [] = refl
  leading_all (b ∷ s) = go (test b) (leading_all s)
    where
      go : (t : Bool) → eqb (length (leading test s)) (length s) ≡ list_all test s
          → eqb (length (cond t (b ∷ leading test s) [])) (suc (length s)) ≡ t && list_all test s
      go true e = eqb-suc-suc (length (leading test s)) (length s) ∙ e
      go false e = eqb-zero-suc (length s)

  -- the first i bytes pass: they and those that pass from i on are all
  pub record Passed (s : List ℕ) (i : ℕ) : Type 0 where
    pub within : i ≤ length s
    pub all : leading test s ≡ take i s ++ leading test (drop i s)

  -- at first none is passed; a byte that passes is one more
  pub passed_none : (s : List ℕ) → Passed s 0
  passed_none s = record { within = zero-le; all = refl }

  module _ (s : List ℕ) (i : ℕ) where
    pub passed_more : i < length s → test (get_or s i 0) ≡ true → Passed s i → Passed s (i + 1)
    unfolding leading
    passed_more h d p = record {
      within = omega arith;
      all = p.all ∙ ap (λ l. take i s ++ leading test l) (drop_next s i h) ∙ rw (d, take_next s i h, append_assoc);
    }

    -- where none passes from i on, the first i are all
    ended : leading test (drop i s) ≡ [] → Passed s i → leading test s ≡ take i s
    ended e p = rw (p.all, e, append-nil)

    -- as at a byte that does not pass, and at the end
    pub ended_inside : i < length s → test (get_or s i 0) ≡ false → Passed s i → leading test s ≡ take i s
    unfolding leading
    ended_inside h d = ended (ap (leading test) (drop_next s i h) ∙ rw d)

    pub ended_last : length s ≤ i → Passed s i → leading test s ≡ take i s
    unfolding leading
    ended_last h = ended (ap (leading test) (drop_of_length-le s h))

    -- and they are i
    pub counted : leading test s ≡ take i s → Passed s i → i ≡ length (leading test s)
    counted e p = rw (e, length-take-le i s p.within)

-- ---- what digits are worth

and_left : (x y : Bool) → x && y ≡ true → x ≡ true
and_left true y e = refl
and_left false y e = e

-- a digit is the byte of 0 or one after it
pub digit_from : (b : ℕ) → is_digit b ≡ true → 48 ≤ b
unfolding is_digit
digit_from b e = leb-true 48 b (and_left (leb 48 b) (leb b 57) e)

-- bytes are digits only where there are some, and each is one
pub digits_all : (s : List ℕ) → false ≡ eqb (length s) 0 → digits_only s ≡ list_all is_digit s
unfolding digits_only
digits_all [] h = cc
digits_all (b ∷ s) h = rw (lt-ltb 0 (length (b ∷ s)) (omega arith)) (leading_all is_digit (b ∷ s))

pub digits_none : (s : List ℕ) → true ≡ eqb (length s) 0 → digits_only s ≡ false
unfolding digits_only
digits_none [] h = refl
digits_none (b ∷ s) h = let some = ne_eqb (length (b ∷ s)) 0 (λ z. omega arith) in cc

-- the first i bytes are the digits
pub digits_read : (s : List ℕ) (i : ℕ) (m : Option ℕ) → leading_digits s ≡ take i s → Passed is_digit s i
    → m ≡ capped (value_from 0 (take i s)) → ◌≡◌ {A = Digits} (record { count = i; magnitude = m }) (digits_of s)
unfolding digits_of
digits_read s i m e p f = rw (f, e, length-take-le i s p.within)

-- the magnitude that was read is that of their value
pub worth_read : {d : Digits} {t : List ℕ} (s : List ℕ) → d ≡ digits_of t → t ≡ s → d.magnitude ≡ capped (leading_value s)
unfolding digits_of
worth_read s e f = rw (e, f)

-- a digit more counts after the others
pub value_more : (v : ℕ) (l : List ℕ) (b : ℕ) → value_from v (l ++ (b ∷ [])) ≡ value_from v l * 10 + (b - 48)
unfolding value_from
value_more v [] b = refl
value_more v (d ∷ l) b = value_more (v * 10 + (d - 48)) l b

-- a value that fits, and one that is too large
pub capped_in : (n : ℕ) → n ≤ 65535 → capped n ≡ Some n
unfolding capped
capped_in n h = rw (le-leb n 65535 h)

pub capped_out : (n : ℕ) → 65535 < n → capped n ≡ None
unfolding capped
capped_out n h = rw (lt-leb n 65535 h)

-- and back: a magnitude tells the value, or that it is too large
pub value_in : (n v : ℕ) {m : Option ℕ} → m ≡ Some v → m ≡ capped n → n ≡ v
value_in n v e f = ⊎_elim (λ l. let g = capped_out n l in cc) (λ l. let g = capped_in n l in cc) (less 65535 n)

pub value_out : (n : ℕ) {m : Option ℕ} → m ≡ None → m ≡ capped n → 65535 < n
value_out n e f =
    ⊎_elim (λ l. l) (λ l. let g = capped_in n l in never (cc)) (less 65535 n)

-- the library's test of a sum is ours
pub capped_sum : (n : ℕ) (r : Option ℕ) → SomeIff r (n < 65536) n → r ≡ capped n
capped_sum n None h = sym (capped_out n (omega arith))
capped_sum n (Some v) h = ap Some h.1 ∙ sym (capped_in n (omega arith))

-- ---- VAL, from the first byte that is no blank

-- digits after a minus, after a plus, and without a sign
pub signed_minus : (s : List ℕ) → 1 ≤ length s → get_or s 0 0 ≡ 45 → signed_value s ≡ fit (neg_ℤ (pos (leading_value (drop 1 s))))
unfolding signed_value
signed_minus [] h e = absurd (omega arith)
signed_minus (b ∷ s) h e = rw (eq-eqb b 45 e)

pub signed_plus : (s : List ℕ) → 1 ≤ length s → get_or s 0 0 ≡ 43 → signed_value s ≡ fit (pos (leading_value (drop 1 s)))
unfolding signed_value
signed_plus [] h e = absurd (omega arith)
signed_plus (b ∷ s) h e = rw e

pub unsigned : (s : List ℕ) → (1 ≤ length s → get_or s 0 0 ≡ 45 → ⊥) → (1 ≤ length s → get_or s 0 0 ≡ 43 → ⊥) → signed_value s ≡ fit (pos (leading_value s))
unfolding signed_value leading value_from
unsigned [] m p = refl
unsigned (b ∷ s) m p = rw (ne_eqb b 45 (m (omega arith)), ne_eqb b 43 (p (omega arith)))

-- and VAL reads what is left after the blanks
pub val_rest : (s : List ℕ) (n : ℕ) → n ≡ blanks_of s → val_of s ≡ signed_value (take (length s - n) (drop n s))
val_rest s n e = rw (part_from s n, e)
