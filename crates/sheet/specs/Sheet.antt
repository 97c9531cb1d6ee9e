-- The month's sheet: records, one a line, read in their order, and what is printed.
use Rattle.std.specs.Prelude.{cond, Option, Some, None, List, [], ◌∷◌, ◌++◌, map, ℕ, ◌+◌, leb}
use Rattle.whole.specs.Bytes.{bytes}
use Rattle.loader.specs.Lines.{Line, lines_of}
use Rattle.console.specs.Lines.{line}
use Rattle.records.specs.Records.{record_of}
use Rattle.tallies.specs.Totals.{most_records, totals_of}
use Rattle.sheet.specs.Printed.{printed_of}
use Rattle.records.specs.declared.reading.Run.{Run}

-- the runs that all records tell, or the number of the first record that is refused, counted from 1
pub data Reading : Type 0 where
  runs : List Run → Reading
  refused : ℕ → Reading

abbrev pub and_run : Run → Reading → Reading
and_run run (runs rs) = runs (run ∷ rs)
and_run run (refused n) = refused n

abbrev pub by_record : Option Run → ℕ → Reading → Reading
by_record (Some run) number rest = and_run run rest
by_record None number rest = refused number

-- records with so many before them: each is good, or refused, or the first too many
unfoldable pub read_from : ℕ → List (List ℕ) → Reading
read_from before [] = runs []
read_from before (l ∷ ls) =
    cond (leb most_records before) (refused (before + 1)) (by_record (record_of l) (before + 1) (read_from (before + 1) ls))

abbrev pub refused_line : ℕ → List ℕ
refused_line n = line (bytes "refused") (n ∷ [])

abbrev pub told : Reading → List ℕ
told (runs rs) = printed_of (totals_of rs)
told (refused n) = refused_line n

-- sheet lines end as those of a recipe
abbrev pub records_in : List ℕ → List (List ℕ)
records_in sheet = map (λ (l : Line). l.bytes) (lines_of sheet)

unfoldable pub sheet_of : List ℕ → List ℕ
sheet_of sheet = told (read_from 0 (records_in sheet))

-- the whole of a sheet that comes in parts
unfoldable pub joined : List (List ℕ) → List ℕ
joined [] = []
joined (part ∷ parts) = part ++ joined parts
