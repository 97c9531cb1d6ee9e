-- Numbers and the lines that have them: the three cases of a line's number, and the search for a line by its number.
use Rattle.std.specs.Prelude.{None, Some}
use mathlib.Core.Path.{◌≡◌, sym, ap, ◌∙◌}
use mathlib.Core.Bool.{true, false, ◌&&◌}
use mathlib.Core.List.{List, [], ◌∷◌, ◌++◌, cons-ne-nil, IsSuffix, suffix_refl, suffix-cons, IsSuffix-trans}
use Prim.Native.Nat.{ℕ, ◌+◌, ◌≤◌, ◌<◌}
use native.Mathlib.Omega.{arith}
use borrow.Author.Tests.{le-leb, lt-leb, leb-true}
use lib.Dec.{leb}
use lib.ListN.{length}
use Rattle.whole.specs.Digits.{is_digit, leading_digits, leading_value}
use Rattle.whole.proofs.Reading.{leading_inside}
use Rattle.whole.proofs.Never.{never}
use Rattle.words.specs.Places.{line_number, largest_line_number}
use Rattle.words.specs.declared.places.LineNumber.{LineNumber}
use Rattle.words.proofs.Choices.{by_test, both}
use Rattle.loader.specs.Lines.{Line, lines_of, number_of, first_of, has, from_number, spanned}
use Rattle.loader.specs.declared.lines.Extent.{Extent}
use Rattle.loader.proofs.Extents.{lines_at, passed, Walked, walked_size, cut}

-- ---- the number of a line

module _ (s : List ℕ) where
  -- no digit first
  pub no_digit : length (leading_digits s) ≡ 0 → number_of s ≡ None
  unfolding number_of
  no_digit e = rw e

  -- a number over 65529
  pub too_large : largest_line_number < leading_value s → number_of s ≡ None
  unfolding number_of
  too_large h =
      let f = lt-leb (leading_value s) largest_line_number h in
      by_test (leb 1 (length (leading_digits s))) (λ t. rw (t, f)) (λ t. rw t)

  -- a line with a number
  pub is_number : (length (leading_digits s) ≡ 0 → ⊥) → leading_value s ≤ largest_line_number
      → number_of s ≡ Some (line_number (leading_value s), length (leading_digits s))
  unfolding number_of
  is_number z h = rw (le-leb 1 (length (leading_digits s)) (omega arith), le-leb (leading_value s) largest_line_number h)

-- what a number of a line tells of its bytes
pub record Numbered (s : List ℕ) (n : LineNumber) (count : ℕ) : Type 0 where
  pub is : n ≡ line_number (leading_value s)
  pub digits : count ≡ length (leading_digits s)
  pub small : leading_value s ≤ largest_line_number

module _ (s : List ℕ) {n : LineNumber} {count : ℕ} where
  pub numbered_as : number_of s ≡ Some (n, count) → Numbered s n count
  unfolding number_of
  numbered_as e =
      let some = leb 1 (length (leading_digits s)) in let fits = leb (leading_value s) largest_line_number in
      by_test (some && fits)
      (λ t. let f = rw t at e in
      let g : ◌≡◌ {A = LineNumber × ℕ} (line_number (leading_value s), length (leading_digits s)) (n, count) = cc in
      record { is = sym (ap (λ p. p.0) g); digits = sym (ap (λ p. p.1) g); small = leb-true _ _ (both some fits t).1 })
      (λ t. let f = rw t at e in never (cc))

  -- its digits stand within the line
  pub digits_inside : number_of s ≡ Some (n, count) → count ≤ length s
  digits_inside e = omega (arith, (numbered_as e).digits, leading_inside is_digit s)

module _ (text : List ℕ) (p : ℕ) {e : Extent} {n : LineNumber} {count : ℕ} (w : Walked text p e) where
  -- so the line at a place does not end before they do,
  pub digits_end : number_of (passed text p e).bytes ≡ Some (n, count) → p + count ≤ e.end.0
  digits_end q = omega (arith, digits_inside (passed text p e).bytes q, walked_size text p w)

  -- and is found with its number
  pub found_here : number_of (passed text p e).bytes ≡ Some (n, count) → first_of (lines_at text p) ≡ Some (spanned p e n count)
  found_here q = rw (w.lines, q, walked_size text p w)

-- ---- the search for a number

module _ (n : ℕ) where
  module _ {ls : List Line} {l : Line} {rest : List Line} (q : ls ≡ l ∷ rest) where
    -- it ends at a line that has the number,
    pub from_hit : has n (number_of l.bytes) ≡ true → from_number n ls ≡ ls
    unfolding from_number
    from_hit t = rw (q, t)

    -- and goes on past one that has not
    pub from_miss : has n (number_of l.bytes) ≡ false → from_number n ls ≡ from_number n rest
    unfolding from_number
    from_miss t = rw (q, t)

  -- what it gives are the last of the lines
  pub from_suffix : (ls : List Line) → IsSuffix (from_number n ls) ls
  unfolding from_number
  from_suffix [] = suffix_refl []
  from_suffix (l ∷ ls) =
      by_test (has n (number_of l.bytes)) (λ t. rw t (suffix_refl (l ∷ ls)))
      (λ t. rw t (IsSuffix-trans (from_suffix ls) (suffix-cons l ls)))

  -- and the first of them has the number
  pub from_has : (ls : List Line) {l : Line} {rest : List Line} → from_number n ls ≡ l ∷ rest → has n (number_of l.bytes) ≡ true
  unfolding from_number
  from_has [] e = absurd (cons-ne-nil _ _ (sym e))
  from_has (m ∷ ls) {l} e =
      by_test (has n (number_of m.bytes)) (λ t. let f = rw t at e in let g : m ≡ l = cc in rw (← g) t)
      (λ t. from_has ls (rw t at e))

module _ (text : List ℕ) {l : Line} {ls : List Line} where
  -- some lines on, the lines are those from a later place on
  lines_after : (p : ℕ) (before : List Line) → lines_at text p ≡ before ++ (l ∷ ls) → lines_at text l.start ≡ l ∷ ls
  lines_after p [] q = ap (lines_at text) (cut text p q).start ∙ q
  lines_after p (m ∷ before) q = lines_after m.next before (sym (cut text p q).rest)

  -- the last of a text's lines are the lines from where the first of them begins
  pub suffix_at : (p : ℕ) → IsSuffix (l ∷ ls) (lines_at text p) → lines_at text l.start ≡ l ∷ ls
  suffix_at p s = lines_after p s.0 (sym s.1)

  -- so the search gives the lines from where its first begins
  pub from_at : (n : ℕ) → from_number n (lines_of text) ≡ l ∷ ls → from_number n (lines_of text) ≡ lines_at text l.start
  from_at n e = e ∙ sym (suffix_at 0 (rw e at (from_suffix n (lines_of text))))
