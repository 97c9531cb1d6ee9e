-- What differs between two editions, in rising order of the line numbers, each differing number once.
use Rattle.std.specs.Prelude.{cond, List, [], ◌∷◌, ◌++◌, map, ℕ, ltb}
use Rattle.whole.specs.Digits.{leading_value}
use Rattle.words.specs.Places.{line_number}
use Rattle.words.specs.Spellings.{same_bytes}
use Rattle.loader.specs.Lines.{Line, lines_of, after_number}
use Rattle.compare.specs.declared.merging.Way.{Way}
use Rattle.compare.specs.declared.merging.Way.TheVariants.{Gone, New, Changed}
use Rattle.compare.specs.declared.merging.Difference.{Difference}

-- the number of a line of an edition that loads
abbrev pub number_in : Line → ℕ
number_in l = leading_value l.bytes

-- a line's number differs in this way
abbrev pub differs : Way → Line → Difference
differs way l = record { way = way; number = line_number (number_in l) }

-- two lines with one number are equal when the bytes after their numbers are
abbrev pub of_both : Line → Line → List Difference
of_both o n = cond (same_bytes (after_number o) (after_number n)) [] (differs Changed o ∷ [])

-- which of an old and a new line has the smaller number
pub data Order : Type 0 where
  old_first : Order
  new_first : Order
  together : Order

abbrev pub order_of : ℕ → ℕ → Order
order_of o n = cond (ltb o n) old_first (cond (ltb n o) new_first together)

-- what is said in each case
abbrev pub by_order : {A : Type 0} → Order → (Unit {0} → A) → (Unit {0} → A) → (Unit {0} → A) → A
by_order old_first old new both = old tt
by_order new_first old new both = new tt
by_order together old new both = both tt

-- an old line against the lines of the new edition, where `later` says what differs between the old lines after it and new ones: a
-- number that only the old edition has is gone, one that only the new one has is new
unfoldable pub against : Line → (List Line → List Difference) → List Line → List Difference
against o later [] = differs Gone o ∷ later []
against o later (n ∷ ns) =
    by_order (order_of (number_in o) (number_in n)) (λ _. differs Gone o ∷ later (n ∷ ns)) (λ _. differs New n ∷ against o later ns)
    (λ _. of_both o n ++ later ns)

-- the lines of both editions rise, so the smaller number comes first
unfoldable pub differences : List Line → List Line → List Difference
differences [] new = map (differs New) new
differences (o ∷ os) new = against o (λ ns. differences os ns) new

abbrev pub differences_of : List ℕ → List ℕ → List Difference
differences_of old new = differences (lines_of old) (lines_of new)
