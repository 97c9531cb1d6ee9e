-- The rows of the paper's table: their order, the first foreign byte of a line, and the number before.
use mathlib.Core.Path.{◌≡◌, refl, sym, ap, ◌∙◌}
use mathlib.Core.Bool.{true, false, false≢true}
use mathlib.Core.List.{List, [], ◌∷◌, ◌++◌}
use Prim.Native.Nat.{ℕ, zero, suc, ◌+◌, ◌≤◌, ◌<◌}
use native.Mathlib.Omega.{arith}
use borrow.Author.Tests.{leb-true, le-leb}
use lib.Dec.{leb}
use lib.ListN.{length}
use Rattle.whole.specs.Bytes.{leading}
use Rattle.whole.specs.Digits.{is_digit, leading_digits, leading_value}
use Rattle.words.proofs.Choices.{by_test, both}
use Rattle.loader.specs.Lines.{Line}
use Rattle.loader.specs.Loading.{is_plain}
use Rattle.loader.specs.declared.refusals.Refusal.{Refusal}
use Rattle.loader.specs.declared.refusals.Refusal.TheVariants.{NoVariable, SpaceTooLong, StackTooLong, TextTooLong, LineTooLong, ForeignByte, BadNumber, NotRising, TooManyLines, ShortGroup, TooManyPairs, NoRoom}
use Rattle.promises.specs.Refusals.{Plain, AllPlain, begins_with_digit, row_of}

-- ---- rows

-- a row is known by its place in the table; 0 is no row's
abbrev row_at : ℕ → Refusal
row_at zero = NoRoom
row_at (suc zero) = NoVariable
row_at (suc (suc zero)) = SpaceTooLong
row_at (suc (suc (suc zero))) = StackTooLong
row_at (suc (suc (suc (suc zero)))) = TextTooLong
row_at (suc (suc (suc (suc (suc zero))))) = LineTooLong
row_at (suc (suc (suc (suc (suc (suc zero)))))) = ForeignByte
row_at (suc (suc (suc (suc (suc (suc (suc zero))))))) = BadNumber
row_at (suc (suc (suc (suc (suc (suc (suc (suc zero)))))))) = NotRising
row_at (suc (suc (suc (suc (suc (suc (suc (suc (suc n))))))))) = TooManyLines

row_back : (r : Refusal) → 0 < row_of r → row_at (row_of r) ≡ r
row_back ShortGroup h = absurd (omega arith)
row_back TooManyPairs h = absurd (omega arith)
row_back NoRoom h = absurd (omega arith)
row_back NoVariable h = refl
row_back SpaceTooLong h = refl
row_back StackTooLong h = refl
row_back TextTooLong h = refl
row_back LineTooLong h = refl
row_back ForeignByte h = refl
row_back BadNumber h = refl
row_back NotRising h = refl
row_back TooManyLines h = refl

pub same_row : (r s : Refusal) → 0 < row_of r → row_of r ≤ row_of s → row_of s ≤ row_of r → r ≡ s
same_row r s p h k =
    let e : row_of r ≡ row_of s = omega arith in sym (row_back r p) ∙ ap row_at e ∙ row_back s (omega arith)

-- ---- bytes

plain_true : (b : ℕ) → is_plain b ≡ true → Plain b
unfolding is_plain
plain_true b e = let h = both (leb 32 b) (leb b 126) e in (leb-true 32 b h.0, leb-true b 126 h.1)

plain_false : (b : ℕ) → is_plain b ≡ false → Plain b → ⊥
unfolding is_plain
plain_false b e p = false≢true (sym e ∙ rw (le-leb 32 b p.0, le-leb b 126 p.1))

is_plain_lem : (b : ℕ) → Plain b → is_plain b ≡ true
unfolding is_plain
is_plain_lem b p = rw (le-leb 32 b p.0, le-leb b 126 p.1)

not_plain : (b : ℕ) → (Plain b → ⊥) → is_plain b ≡ false
not_plain b h = by_test (is_plain b) (λ e. absurd (h (plain_true b e))) (λ e. e)

-- the first foreign byte stands after the plain ones
pub record Front (s : List ℕ) : Type 0 where
  pub front : List ℕ
  pub byte : ℕ
  pub back : List ℕ
  pub bytes : s ≡ front ++ (byte ∷ back)
  pub plain : AllPlain front
  pub not : Plain byte → ⊥
  pub counted : length (leading is_plain s) ≡ length front

front_more : (b : ℕ) (s : List ℕ) → is_plain b ≡ true → Front s → Front (b ∷ s)
unfolding leading AllPlain
front_more b s e f =
    record {
      front = b ∷ f.front;
      byte = f.byte;
      back = f.back;
      bytes = ap (b ∷◌) f.bytes;
      plain = (plain_true b e, f.plain);
      not = f.not;
      counted = rw e (ap suc f.counted);
    }

pub front_of : (s : List ℕ) → length (leading is_plain s) < length s → Front s
unfolding leading AllPlain
front_of [] h = absurd (omega arith)
front_of (b ∷ s) h =
    by_test (is_plain b)
    (λ e. front_more b s e (front_of s (let k : suc (length (leading is_plain s)) < suc (length s) = rw e at h in omega arith)))
    (λ e. record { front = []; byte = b; back = s; bytes = refl; plain = tt; not = plain_false b e; counted = rw e })

pub front_counted : (front : List ℕ) (b : ℕ) (back : List ℕ) → AllPlain front → (Plain b → ⊥)
    → length (leading is_plain (front ++ (b ∷ back))) ≡ length front
unfolding leading AllPlain
front_counted [] b back p n = rw (not_plain b n)
front_counted (x ∷ front) b back p n = rw (is_plain_lem x p.0) (ap suc (front_counted front b back p.1 n))

-- ---- numbers

pub digits_first : (s : List ℕ) → begins_with_digit s ≡ leb 1 (length (leading_digits s))
unfolding leading
digits_first [] = refl
digits_first (b ∷ s) = by_test (is_digit b) (λ e. rw e (sym (le-leb 1 (suc (length (leading is_digit s))) (omega arith)))) (λ e. rw e)

-- what the number of a line must not be below, by the lines before it
unfoldable pub floor_of : List Line → ℕ
floor_of [] = 0
floor_of (l ∷ []) = leading_value l.bytes + 1
floor_of (l ∷ m ∷ ls) = floor_of (m ∷ ls)

pub floor_last : (earlier : List Line) (last : Line) → floor_of (earlier ++ (last ∷ [])) ≡ leading_value last.bytes + 1
unfolding floor_of
floor_last [] last = refl
floor_last (l ∷ []) last = refl
floor_last (l ∷ m ∷ ls) last = floor_last (m ∷ ls) last

pub record Last (ls : List Line) : Type 0 where
  pub earlier : List Line
  pub last : Line
  pub is : ls ≡ earlier ++ (last ∷ [])

last_of : (l : Line) (ls : List Line) → Last (l ∷ ls)
last_of l [] = record { earlier = []; last = l; is = refl }
last_of l (m ∷ ls) = let y = last_of m ls in record { earlier = l ∷ y.earlier; last = y.last; is = ap (l ∷◌) y.is }

pub below_floor : (before : List Line) (n : ℕ) → n < floor_of before → (y : Last before) × (n ≤ leading_value y.last.bytes)
unfolding floor_of
below_floor [] n h = absurd (omega arith)
below_floor (l ∷ ls) n h =
    let y = last_of l ls in
    let e = ap floor_of y.is ∙ floor_last y.earlier y.last in
    (y, omega (arith, h, e))
