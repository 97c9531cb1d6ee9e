-- A law of what is reported, by the two editions alone: a number is reported if and only if it is in just one edition, or in both with
-- other bytes after it, and the word says which; once, and in rising order. Proved in proofs/Law.antt.
use Rattle.std.specs.Prelude.{◌≡◌, cond, List, [], ◌∷◌, ℕ, ◌+◌, ◌≤◌, eqb, Ok}
use Rattle.words.specs.Places.{line_number}
use Rattle.words.specs.Spellings.{same_bytes}
use Rattle.loader.specs.Lines.{Line, lines_of, after_number}
use Rattle.loader.specs.Loading.{load_of}
use Rattle.compare.specs.Differences.{number_in, differences_of}
use Rattle.compare.specs.declared.merging.Way.TheVariants.{Gone, New, Changed}
use Rattle.compare.specs.declared.merging.Difference.{Difference}

-- what an edition has under a number: no line, or one with these bytes after the number
pub data Entry : Type 0 where
  missing : Entry
  holds : List ℕ → Entry

unfoldable pub entry_in : ℕ → List Line → Entry
entry_in n [] = missing
entry_in n (l ∷ ls) = cond (eqb (number_in l) n) (holds (after_number l)) (entry_in n ls)

-- what must be reported of a number, by what the old and the new edition have under it
abbrev pub due_of : ℕ → Entry → Entry → List Difference
due_of n missing missing = []
due_of n (holds a) missing = record { way = Gone; number = line_number n } ∷ []
due_of n missing (holds b) = record { way = New; number = line_number n } ∷ []
due_of n (holds a) (holds b) = cond (same_bytes a b) [] (record { way = Changed; number = line_number n } ∷ [])

-- what is reported of a number
unfoldable pub reported_of : ℕ → List Difference → List Difference
reported_of n [] = []
reported_of n (d ∷ ds) = cond (eqb d.number.0 n) (d ∷ reported_of n ds) (reported_of n ds)

-- the numbers rise, the first not below `floor`
abbrev pub Rises : ℕ → List Difference → Type 0
Rises floor [] = Unit {0}
Rises floor (d ∷ ds) = (floor ≤ d.number.0) × Rises (d.number.0 + 1) ds

pub record Law (old new : List ℕ) : Type 0 where
  pub reported : (n : ℕ) → reported_of n (differences_of old new) ≡ due_of n (entry_in n (lines_of old)) (entry_in n (lines_of new))
  pub rising : Rises 0 (differences_of old new)

-- of all editions that load
abbrev pub ReportsJustDifferences : Type 0
ReportsJustDifferences = (old new : List ℕ) → load_of old ≡ Ok tt → load_of new ≡ Ok tt → Law old new
