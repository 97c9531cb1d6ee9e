-- What tells of a name, character by character.
use mathlib.Core.Path.{◌≡◌, refl, sym, ap, ◌∙◌}
use mathlib.Core.Bool.{Bool, true, false, not, false≢true}
use mathlib.Core.List.{List, [], ◌∷◌, ◌++◌, map, append-nil}
use Prim.Native.Nat.{ℕ, zero, suc, ◌+◌, ◌-◌, ◌≤◌, ◌<◌}
use native.Mathlib.Omega.{arith}
use borrow.Author.Tests.{eq-eqb, ne_eqb, eqb-true}
use lib.Dec.{eqb}
use lib.ListN.{length, get_or, set, take, drop, replicate, length-append, length-replicate}
use Rattle.whole.specs.Bytes.{leading}
use Rattle.words.specs.Classes.{capital_of}
use Rattle.words.specs.Spellings.{same_bytes}
use Rattle.words.specs.Names.{name_width, telling, telling_of, alike, entry_of}
use lib.Seq.{take-take, drop-drop, get_or-drop}
use Rattle.words.proofs.Choices.{by_test, both}
use Rattle.words.proofs.Runs.{front}

-- ---- up to so many characters, none from a zero on

abbrev is_set : ℕ → Bool
is_set b = not (eqb b 0)

abbrev first : ℕ → List ℕ → List ℕ
first n s = leading is_set (take n s)

is_first : (s : List ℕ) → telling s ≡ first name_width s
unfolding telling
is_first s = refl

first-length : (n : ℕ) (s : List ℕ) → length (first n s) ≤ n
unfolding leading
first-length zero s = omega arith
first-length (suc n) [] = omega arith
first-length (suc n) (b ∷ s) = let h = first-length n s in by_test (is_set b) (λ e. rw e (omega arith)) (λ e. rw e (omega arith))

first_again : (n : ℕ) (s : List ℕ) → first n (first n s) ≡ first n s
unfolding leading
first_again zero s = refl
first_again (suc n) [] = refl
first_again (suc n) (b ∷ s) = by_test (is_set b) (λ e. rw (e, e) (ap (λ l. b ∷ l) (first_again n s))) (λ e. rw e)

-- with zeros after them, and whatever comes then, they are the same
first_filled : (n : ℕ) (s rest : List ℕ) → first n ((first n s ++ replicate (n - length (first n s)) 0) ++ rest) ≡ first n s
unfolding leading
first_filled zero s rest = refl
first_filled (suc n) [] rest = let z : suc n - 0 ≡ suc n = omega arith in rw z
first_filled (suc n) (b ∷ s) rest =
    by_test (is_set b)
    (λ e. let z : suc n - suc (length (first n s)) ≡ n - length (first n s) = omega arith in rw (e, z, e) (ap (λ l. b ∷ l) (first_filled n s rest)))
    (λ e. let z : suc n - 0 ≡ suc n = omega arith in rw (e, z))

-- one more of them, and the end
first_more : (n : ℕ) (s : List ℕ) (i : ℕ) → i < n → i ≤ length (first n s) → (get_or s i 0 ≡ 0 → ⊥) → i < length (first n s)
unfolding leading
first_more zero s i h l d = absurd (omega arith)
first_more (suc n) [] i h l d = absurd (d refl)
first_more (suc n) (b ∷ s) zero h l d = rw (ne_eqb b 0 d) (omega arith)
first_more (suc n) (b ∷ s) (suc i) h l d =
    by_test (is_set b)
    (λ e. let k = rw e at l in rw e (let m = first_more n s i (omega arith) (omega arith) d in omega arith))
    (λ e. let k = rw e at l in absurd (omega arith))

first_get : (n : ℕ) (s : List ℕ) (i : ℕ) → i < length (first n s) → get_or (first n s) i 0 ≡ get_or s i 0
unfolding leading
first_get zero s i h = absurd (omega arith)
first_get (suc n) [] i h = absurd (omega arith)
first_get (suc n) (b ∷ s) zero h = by_test (is_set b) (λ e. rw e) (λ e. let k = rw e at h in absurd (omega arith))
first_get (suc n) (b ∷ s) (suc i) h =
    by_test (is_set b)
    (λ e. let k = rw e at h in rw e (first_get n s i (omega arith)))
    (λ e. let k = rw e at h in absurd (omega arith))

first_over : (n : ℕ) (s : List ℕ) (i : ℕ) → get_or s i 0 ≡ 0 → length (first n s) ≤ i
unfolding leading
first_over zero s i e = omega arith
first_over (suc n) [] i e = omega arith
first_over (suc n) (b ∷ s) zero e = rw (eq-eqb b 0 e) (omega arith)
first_over (suc n) (b ∷ s) (suc i) e = let h = first_over n s i e in by_test (is_set b) (λ t. rw t (omega arith)) (λ t. rw t (omega arith))

-- ---- what tells

pub told_length : (s : List ℕ) → length (telling s) ≤ name_width
told_length s = rw (is_first s) (first-length name_width s)

pub told_again : (s : List ℕ) → telling (telling s) ≡ telling s
unfolding telling
told_again s = first_again name_width s

-- an entry has the width of all, and tells what it was made of, whatever stands after it
pub entry_length : (s : List ℕ) → length (entry_of s) ≡ name_width
entry_length s = let h = told_length s in simp (length-append, length-replicate) (omega arith)

pub entry_told : (s rest : List ℕ) → telling (entry_of s ++ rest) ≡ telling s
unfolding telling
entry_told s rest = first_filled name_width s rest

pub entry_alone : (s : List ℕ) → telling (entry_of s) ≡ telling s
entry_alone s = ap telling (sym (append-nil (entry_of s))) ∙ entry_told s []

-- ---- a character after the other

pub told_more : (s : List ℕ) (i : ℕ) → i < name_width → i ≤ length (telling s) → (get_or s i 0 ≡ 0 → ⊥) → i < length (telling s)
unfolding telling
told_more s i h l d = first_more name_width s i h l d

pub told_get : (s : List ℕ) (i : ℕ) → i < length (telling s) → get_or (telling s) i 0 ≡ get_or s i 0
unfolding telling
told_get s i h = first_get name_width s i h

pub told_over : (s : List ℕ) (i : ℕ) → get_or s i 0 ≡ 0 → length (telling s) ≤ i
unfolding telling
told_over s i e = first_over name_width s i e

-- written over the zeros
pub put_next : (t : List ℕ) (i n c : ℕ) → i < length t → get_or t i 0 ≡ c → set (take i t ++ replicate (suc n) 0) i c ≡ take (i + 1) t ++ replicate n 0
put_next [] i n c h e = absurd (omega arith)
put_next (b ∷ t) zero n c h e = rw e
put_next (b ∷ t) (suc i) n c h e = let z : suc i + 1 ≡ suc (i + 1) = omega arith in rw z (ap (λ l. b ∷ l) (put_next t i n c (omega arith) e))

-- the capital of no character is none
pub capital_at : (s : List ℕ) (i : ℕ) → get_or (map capital_of s) i 0 ≡ capital_of (get_or s i 0)
unfolding capital_of
capital_at [] i = refl
capital_at (b ∷ s) zero = refl
capital_at (b ∷ s) (suc i) = capital_at s i

-- the byte at a place of a name's entry
pub entry_at : (s : List ℕ) (from i : ℕ) {f byte : ℕ} → f ≡ from → byte ≡ get_or s (f + i) 0 → byte ≡ get_or (drop from s) i 0
entry_at s from i e h = h ∙ ap (λ k. get_or s (k + i) 0) e ∙ sym (get_or-drop from s i 0)

-- ---- two names, compared character by character: what is left of both decides

same_apart : (n : ℕ) (a b : List ℕ) → (get_or a 0 0 ≡ get_or b 0 0 → ⊥) → same_bytes (first (suc n) a) (first (suc n) b) ≡ false
unfolding leading same_bytes
same_apart n [] [] d = absurd (d refl)
same_apart n [] (y ∷ b) d = rw (ne_eqb y 0 (λ e. d (sym e)))
same_apart n (x ∷ a) [] d = rw (ne_eqb x 0 d)
same_apart n (x ∷ a) (y ∷ b) d =
    by_test (eqb x 0)
    (λ e. by_test (eqb y 0) (λ f. absurd (d (eqb-true x 0 e ∙ sym (eqb-true y 0 f)))) (λ f. rw (e, f)))
    (λ e. by_test (eqb y 0) (λ f. rw (e, f)) (λ f. rw (e, f, ne_eqb x y d)))

same_over : (n : ℕ) (a b : List ℕ) → get_or a 0 0 ≡ 0 → get_or b 0 0 ≡ 0 → same_bytes (first (suc n) a) (first (suc n) b) ≡ true
unfolding leading same_bytes
same_over n [] [] e f = refl
same_over n [] (y ∷ b) e f = rw (eq-eqb y 0 f)
same_over n (x ∷ a) [] e f = rw (eq-eqb x 0 e)
same_over n (x ∷ a) (y ∷ b) e f = rw (eq-eqb x 0 e, eq-eqb y 0 f)

same_next : (n : ℕ) (a b : List ℕ) → get_or a 0 0 ≡ get_or b 0 0 → (get_or b 0 0 ≡ 0 → ⊥)
    → same_bytes (first (suc n) a) (first (suc n) b) ≡ same_bytes (first n (drop 1 a)) (first n (drop 1 b))
unfolding leading same_bytes
same_next n a [] e d = absurd (d refl)
same_next n [] (y ∷ b) e d = absurd (d (sym e))
same_next n (x ∷ a) (y ∷ b) e d = rw (e, ne_eqb y 0 d, eq-eqb y y refl)

-- from the i-th character on
abbrev pub same_from : ℕ → List ℕ → List ℕ → Bool
same_from i a b = same_bytes (first (name_width - i) (drop i a)) (first (name_width - i) (drop i b))

module _ (a b : List ℕ) where
  pub from_first : alike a b ≡ same_from 0 a b
  unfolding telling
  from_first = refl

  pub from_last : (i : ℕ) → name_width ≤ i → same_from i a b ≡ true
  unfolding leading same_bytes
  from_last i h = let e : name_width - i ≡ 0 = omega arith in rw e

  module _ (i : ℕ) (h : i < name_width) where
    one_left : name_width - i ≡ suc (name_width - (i + 1))
    one_left = omega arith

    pub from_apart : (get_or a i 0 ≡ get_or b i 0 → ⊥) → same_from i a b ≡ false
    from_apart d = rw one_left (same_apart (name_width - (i + 1)) (drop i a) (drop i b) (λ e. d (sym (front a i) ∙ e ∙ front b i)))

    pub from_over : get_or a i 0 ≡ get_or b i 0 → get_or b i 0 ≡ 0 → same_from i a b ≡ true
    from_over e z = rw one_left (same_over (name_width - (i + 1)) (drop i a) (drop i b) (front a i ∙ e ∙ z) (front b i ∙ z))

    pub from_next : get_or a i 0 ≡ get_or b i 0 → (get_or b i 0 ≡ 0 → ⊥) → same_from i a b ≡ same_from (i + 1) a b
    from_next e d =
        let next = same_next (name_width - (i + 1)) (drop i a) (drop i b) (front a i ∙ e ∙ sym (front b i)) (λ z. d (sym (front b i) ∙ z)) in
        rw one_left (rw (drop-drop 1 i a, drop-drop 1 i b) at next)

-- ---- the name that a line has

pub telling_told : (s : List ℕ) → telling (telling_of s) ≡ telling_of s
unfolding telling_of
telling_told s = told_again (map capital_of s)

-- an entry beside it, from the first character on
pub from_telling : (a s : List ℕ) → same_from 0 a (map capital_of s) ≡ alike a (telling_of s)
unfolding telling telling_of
from_telling a s = ap (same_bytes (telling a)) (sym (told_again (map capital_of s)))

-- one that begins otherwise is another
pub first_apart : (a s : List ℕ) → (get_or a 0 0 ≡ capital_of (get_or s 0 0) → ⊥) → alike a (telling_of s) ≡ false
first_apart a s d = sym (from_telling a s) ∙ from_apart a (map capital_of s) 0 (omega arith) (λ e. d (e ∙ capital_at s 0))

-- ---- what stands in a table

-- no more than the width of an entry is looked at
pub told_cut : (m : ℕ) (s : List ℕ) → name_width ≤ m → telling (take m s) ≡ telling s
unfolding telling
told_cut m s h = ap (leading is_set) (take-take name_width m s h)

-- ---- names that are one variable's tell the same

pub same_self : (a : List ℕ) → same_bytes a a ≡ true
unfolding same_bytes
same_self [] = refl
same_self (b ∷ a) = rw (eq-eqb b b refl) (same_self a)

pub same_is : (a b : List ℕ) → same_bytes a b ≡ true → a ≡ b
unfolding same_bytes
same_is [] [] e = refl
same_is [] (y ∷ b) e = absurd (false≢true e)
same_is (x ∷ a) [] e = absurd (false≢true e)
same_is (x ∷ a) (y ∷ b) e =
    let t = both (eqb x y) (same_bytes a b) e in rw (eqb-true x y t.0, same_is a b t.1)
