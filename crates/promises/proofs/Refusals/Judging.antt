-- A line is judged by the first row of the table that applies to it.
use Rattle.std.specs.Prelude.{Err, Ok, Result}
use Rattle.words.specs.declared.places.LineNumber.{LineNumber}
use Rattle.loader.specs.declared.refusals.RefusedAt.{RefusedAt}
use mathlib.Core.Path.{◌≡◌, refl, sym, ap, ◌∙◌}
use mathlib.Core.Bool.{true, false≢true}
use mathlib.Core.List.{List, ◌∷◌, ◌++◌}
use Prim.Native.Nat.{ℕ, ◌+◌, ◌≤◌, ◌<◌}
use native.Mathlib.Omega.{arith}
use borrow.Author.Tests.{ltb-true, ltb-false, leb-true, leb-false}
use lib.Dec.{ltb, leb}
use lib.ListN.{length, length-append}
use Rattle.whole.specs.Bytes.{leading}
use Rattle.whole.specs.Digits.{leading_digits, leading_value}
use Rattle.words.specs.Places.{place, largest_line_number, longest_line}
use Rattle.words.specs.declared.places.Place.{Place}
use Rattle.words.proofs.Choices.{by_test}
use Rattle.loader.specs.Lines.{Line, number_of}
use Rattle.loader.specs.Loading.{is_plain, most_lines, numbered, with_number, judged}
use Rattle.loader.specs.declared.refusals.Refusal.{Refusal}
use Rattle.loader.specs.declared.refusals.Refusal.TheVariants.{NoVariable, SpaceTooLong, StackTooLong, TextTooLong, LineTooLong, ForeignByte, BadNumber, NotRising, TooManyLines, ShortGroup, TooManyPairs, NoRoom}
use Rattle.promises.specs.Refusals.{Plain, AllPlain, begins_with_digit, Applies, too_long, foreign, unnumbered, number_too_large, not_rising, too_many, row_of, NoneApplies}
use Rattle.promises.proofs.Refusals.Rows.{front_of, front_counted, digits_first, floor_of, floor_last, below_floor}

-- ---- a line

-- what judging a line comes to, by the table
abbrev pub Judges : List Line → Line → Result LineNumber RefusedAt → Type 0
Judges before l (Ok n) = (n.0 ≡ leading_value l.bytes) × NoneApplies before l
Judges before l (Err e) =
    Applies before l e.refusal (place (l.start + e.place.0)) × ((s : Refusal) (p : Place) → Applies before l s p → row_of e.refusal ≤ row_of s)

-- how far from its line's first byte a row's place is
abbrev pub offset_in : Line → Refusal → ℕ
offset_in l NoVariable = 0
offset_in l SpaceTooLong = 0
offset_in l StackTooLong = 0
offset_in l TextTooLong = 0
offset_in l LineTooLong = 0
offset_in l ForeignByte = length (leading is_plain l.bytes)
offset_in l BadNumber = 0
offset_in l NotRising = 0
offset_in l TooManyLines = 0
offset_in l ShortGroup = 0
offset_in l TooManyPairs = 0
offset_in l NoRoom = 0

module _ (before : List Line) (l : Line) where
  at_start : {r : Refusal} → Applies before l r (place l.start) → Applies before l r (place (l.start + 0))
  at_start h = let e : l.start + 0 ≡ l.start = omega arith in rw e h

  start_same : place l.start ≡ place (l.start + 0)
  start_same = let e : l.start ≡ l.start + 0 = omega arith in ap place e

  front_same : (front : List ℕ) (b : ℕ) (back : List ℕ) → l.bytes ≡ front ++ (b ∷ back) → AllPlain front → (Plain b → ⊥)
      → length (leading is_plain l.bytes) ≡ length front
  front_same front b back e h k = ap (λ s. length (leading is_plain s)) e ∙ front_counted front b back h k

  -- a row has one place
  pub applies_at : (r : Refusal) (p : Place) → Applies before l r p → p ≡ place (l.start + offset_in l r)
  applies_at LineTooLong p (too_long h) = start_same
  applies_at ForeignByte p (foreign front b back e h k) = ap (λ n. place (l.start + n)) (sym (front_same front b back e h k))
  applies_at BadNumber p (unnumbered h) = start_same
  applies_at BadNumber p (number_too_large h) = start_same
  applies_at NotRising p (not_rising earlier last e h) = start_same
  applies_at TooManyLines p (too_many h) = start_same
  applies_at NoVariable p x' = elim x' [ ]
  applies_at SpaceTooLong p x'' = elim x'' [ ]
  applies_at StackTooLong p x3 = elim x3 [ ]
  applies_at TextTooLong p x4 = elim x4 [ ]
  applies_at ShortGroup p x5 = elim x5 [ ]
  applies_at TooManyPairs p x6 = elim x6 [ ]
  applies_at NoRoom p x7 = elim x7 [ ]

  -- which rows are left after each test
  pub first_row : (r : Refusal) (p : Place) → Applies before l r p → 5 ≤ row_of r
  first_row LineTooLong p (too_long h) = omega arith
  first_row ForeignByte p (foreign front b back e h k) = omega arith
  first_row BadNumber p (unnumbered h) = omega arith
  first_row BadNumber p (number_too_large h) = omega arith
  first_row NotRising p (not_rising earlier last e h) = omega arith
  first_row TooManyLines p (too_many h) = omega arith
  first_row NoVariable p x' = elim x' [ ]
  first_row SpaceTooLong p x'' = elim x'' [ ]
  first_row StackTooLong p x3 = elim x3 [ ]
  first_row TextTooLong p x4 = elim x4 [ ]
  first_row ShortGroup p x5 = elim x5 [ ]
  first_row TooManyPairs p x6 = elim x6 [ ]
  first_row NoRoom p x7 = elim x7 [ ]

  module _ (short : length l.bytes ≤ longest_line) where
    after_103 : (r : Refusal) (p : Place) → Applies before l r p → 6 ≤ row_of r
    after_103 LineTooLong p (too_long h) = absurd (omega (arith, short, h))
    after_103 ForeignByte p (foreign front b back e h k) = omega arith
    after_103 BadNumber p (unnumbered h) = omega arith
    after_103 BadNumber p (number_too_large h) = omega arith
    after_103 NotRising p (not_rising earlier last e h) = omega arith
    after_103 TooManyLines p (too_many h) = omega arith
    after_103 NoVariable p x' = elim x' [ ]
    after_103 SpaceTooLong p x'' = elim x'' [ ]
    after_103 StackTooLong p x3 = elim x3 [ ]
    after_103 TextTooLong p x4 = elim x4 [ ]
    after_103 ShortGroup p x5 = elim x5 [ ]
    after_103 TooManyPairs p x6 = elim x6 [ ]
    after_103 NoRoom p x7 = elim x7 [ ]

    module _ (plain : length l.bytes ≤ length (leading is_plain l.bytes)) where
      after_104 : (r : Refusal) (p : Place) → Applies before l r p → 7 ≤ row_of r
      after_104 LineTooLong p (too_long h) = absurd (omega (arith, short, h))
      after_104 ForeignByte p (foreign front b back e h k) =
          let f = front_same front b back e h k in
          let g = ap length e ∙ length-append front (b ∷ back) in
          absurd (omega (arith, f, g, plain))
      after_104 BadNumber p (unnumbered h) = omega arith
      after_104 BadNumber p (number_too_large h) = omega arith
      after_104 NotRising p (not_rising earlier last e h) = omega arith
      after_104 TooManyLines p (too_many h) = omega arith
      after_104 NoVariable p x' = elim x' [ ]
      after_104 SpaceTooLong p x'' = elim x'' [ ]
      after_104 StackTooLong p x3 = elim x3 [ ]
      after_104 TextTooLong p x4 = elim x4 [ ]
      after_104 ShortGroup p x5 = elim x5 [ ]
      after_104 TooManyPairs p x6 = elim x6 [ ]
      after_104 NoRoom p x7 = elim x7 [ ]

      module _ (digit : begins_with_digit l.bytes ≡ true) (fits : leading_value l.bytes ≤ largest_line_number) where
        after_101 : (r : Refusal) (p : Place) → Applies before l r p → 8 ≤ row_of r
        after_101 LineTooLong p a = absurd (omega (arith, after_104 LineTooLong p a))
        after_101 ForeignByte p a = absurd (omega (arith, after_104 ForeignByte p a))
        after_101 BadNumber p (unnumbered h) = absurd (false≢true (sym h ∙ digit))
        after_101 BadNumber p (number_too_large h) = absurd (omega (arith, fits, h))
        after_101 NotRising p a = omega arith
        after_101 TooManyLines p a = omega arith
        after_101 NoVariable p a = absurd (omega (arith, after_104 NoVariable p a))
        after_101 SpaceTooLong p a = absurd (omega (arith, after_104 SpaceTooLong p a))
        after_101 StackTooLong p a = absurd (omega (arith, after_104 StackTooLong p a))
        after_101 TextTooLong p a = absurd (omega (arith, after_104 TextTooLong p a))
        after_101 ShortGroup p a = absurd (omega (arith, after_104 ShortGroup p a))
        after_101 TooManyPairs p a = absurd (omega (arith, after_104 TooManyPairs p a))
        after_101 NoRoom p a = absurd (omega (arith, after_104 NoRoom p a))

        module _ (rises : floor_of before ≤ leading_value l.bytes) where
          not_102 : (p : Place) → Applies before l NotRising p → ⊥
          not_102 p (not_rising earlier last e h) =
              let f = ap floor_of e ∙ floor_last earlier last in omega (arith, f, h, rises)

          after_102 : (r : Refusal) (p : Place) → Applies before l r p → 9 ≤ row_of r
          after_102 LineTooLong p a = absurd (omega (arith, after_101 LineTooLong p a))
          after_102 ForeignByte p a = absurd (omega (arith, after_101 ForeignByte p a))
          after_102 BadNumber p a = absurd (omega (arith, after_101 BadNumber p a))
          after_102 NotRising p a = absurd (not_102 p a)
          after_102 TooManyLines p a = omega arith
          after_102 NoVariable p a = absurd (omega (arith, after_101 NoVariable p a))
          after_102 SpaceTooLong p a = absurd (omega (arith, after_101 SpaceTooLong p a))
          after_102 StackTooLong p a = absurd (omega (arith, after_101 StackTooLong p a))
          after_102 TextTooLong p a = absurd (omega (arith, after_101 TextTooLong p a))
          after_102 ShortGroup p a = absurd (omega (arith, after_101 ShortGroup p a))
          after_102 TooManyPairs p a = absurd (omega (arith, after_101 TooManyPairs p a))
          after_102 NoRoom p a = absurd (omega (arith, after_101 NoRoom p a))

          not_105 : length before < most_lines → (p : Place) → Applies before l TooManyLines p → ⊥
          not_105 few p (too_many h) = omega (arith, few, h)

          after_105 : length before < most_lines → NoneApplies before l
          after_105 few LineTooLong p a = omega (arith, after_102 LineTooLong p a)
          after_105 few ForeignByte p a = omega (arith, after_102 ForeignByte p a)
          after_105 few BadNumber p a = omega (arith, after_102 BadNumber p a)
          after_105 few NotRising p a = not_102 p a
          after_105 few TooManyLines p a = not_105 few p a
          after_105 few NoVariable p a = omega (arith, after_102 NoVariable p a)
          after_105 few SpaceTooLong p a = omega (arith, after_102 SpaceTooLong p a)
          after_105 few StackTooLong p a = omega (arith, after_102 StackTooLong p a)
          after_105 few TextTooLong p a = omega (arith, after_102 TextTooLong p a)
          after_105 few ShortGroup p a = omega (arith, after_102 ShortGroup p a)
          after_105 few TooManyPairs p a = omega (arith, after_102 TooManyPairs p a)
          after_105 few NoRoom p a = omega (arith, after_102 NoRoom p a)

        judge_numbered : Judges before l (numbered (leading_value l.bytes) (length before) (floor_of before))
        unfolding numbered
        judge_numbered =
            by_test (ltb (leading_value l.bytes) (floor_of before))
            (λ e. let y = below_floor before (leading_value l.bytes) (ltb-true _ _ e) in rw e (at_start (not_rising y.0.earlier y.0.last y.0.is y.1), after_101))
            λ e. rw e
            (by_test (leb most_lines (length before))
            (λ f. rw f (at_start (too_many (leb-true _ _ f)), after_102 (ltb-false _ _ e)))
            (λ f. rw f (refl, after_105 (ltb-false _ _ e) (leb-false _ _ f))))

      judge_number : Judges before l (with_number (number_of l.bytes) (length before) (floor_of before))
      unfolding number_of
      judge_number =
          by_test (leb 1 (length (leading_digits l.bytes)))
          (λ d. by_test (leb (leading_value l.bytes) largest_line_number)
          (λ f. rw (d, f) (judge_numbered (digits_first l.bytes ∙ d) (leb-true _ _ f)))
          (λ f. rw (d, f) (at_start (number_too_large (leb-false _ _ f)), after_104)))
          (λ d. rw d (at_start (unnumbered (digits_first l.bytes ∙ d)), after_104))

  pub judge : Judges before l (judged l.bytes (length before) (floor_of before))
  unfolding judged
  judge =
      by_test (ltb longest_line (length l.bytes))
      (λ e. rw e (at_start (too_long (ltb-true _ _ e)), first_row))
      λ e. rw e
      (by_test (ltb (length (leading is_plain l.bytes)) (length l.bytes))
      (λ f. let y = front_of l.bytes (ltb-true _ _ f) in
      rw (f, y.counted) (foreign y.front y.byte y.back y.bytes y.plain y.not, after_103 (ltb-false _ _ e)))
      (λ f. rw f (judge_number (ltb-false _ _ e) (ltb-false _ _ f))))
