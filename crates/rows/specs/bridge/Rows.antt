-- Bridge: the table of a text's lines, as numbers, beside the lines. Contracts between crates cite it; no demand and no promise of `run`,
-- `check_recipe` or `ask` rests on it.
use Rattle.rows.specs.declared.cells.Row.{Row}
use Rattle.std.specs.Prelude.{◌≡◌, List, [], ◌∷◌, ℕ, ◌+◌, ◌*◌, ◌≤◌, ◌<◌, length, get_or, drop, None, Ok, Option, Some, Bool, Result, Err}
use Rattle.std.proofs.lemmas.List.Edits.{sets}
use Rattle.words.specs.Places.{place, line_number}
use Rattle.loader.specs.Lines.{Line, lines_of, after_number, first_of}
use Rattle.loader.specs.Loading.{load_of, most_lines}
use Rattle.loader.specs.declared.lines.LineSpan.{LineSpan}
use Rattle.reader.specs.Lines.{judged_of}
use Rattle.reader.specs.declared.lines.LineFault.{LineFault}
use Rattle.reader.specs.declared.lines.LineFault.TheVariants.{Unreadable, TooDeep}

-- ---- numbers in rows

-- how many rows there are, at the front
abbrev pub count_of : List ℕ → ℕ
count_of rows = get_or rows 0 0

-- then the columns of a row, row by row
abbrev pub width : ℕ
width = 6

abbrev pub cells : ℕ
cells = 1 + width * most_lines

abbrev pub cell : List ℕ → ℕ → ℕ → ℕ
cell rows row column = get_or rows (1 + (width * row + column)) 0

-- a line's span and verdict, as its row has them
abbrev pub span_in : List ℕ → ℕ → LineSpan
span_in rows row =
    record {
      number = line_number (cell rows row 0);
      place = place (cell rows row 1);
      body = place (cell rows row 2);
      end = place (cell rows row 3);
      next = place (cell rows row 4);
    }

abbrev pub verdict_in : List ℕ → ℕ → ℕ
verdict_in rows row = cell rows row 5

-- 0 for a line that reads, else the number of its error
abbrev pub verdict_of : Result Bool LineFault → ℕ
verdict_of (Err Unreadable) = 2
verdict_of (Err TooDeep) = 16
verdict_of (Ok typed) = 0

-- a row written; its places fit the numbers
abbrev pub put : List ℕ → ℕ → LineSpan → ℕ → List ℕ
put rows row span verdict =
    sets rows (1 + width * row)
    (span.number.0 ∷ span.place.0 ∷ span.body.0 ∷ span.end.0 ∷ span.next.0 ∷ verdict ∷ [])

pub record Small (span : LineSpan) : Type 0 where
  pub place : span.place.0 < 65536
  pub body : span.body.0 < 65536
  pub end : span.end.0 < 65536
  pub next : span.next.0 < 65536

-- ---- the rows of a text's lines

abbrev pub verdict_first : List Line → ℕ
verdict_first [] = 0
verdict_first (l ∷ ls) = verdict_of (judged_of (after_number l))

-- a row tells the first of some lines
pub record Tells (rows : List ℕ) (row : ℕ) (ls : List Line) : Type 0 where
  pub span : first_of ls ≡ Some (span_in rows row)
  pub verdict : verdict_in rows row ≡ verdict_first ls

-- the table of a text that loads: a row a line, in order
pub record Tabled (text rows : List ℕ) : Type 0 where
  pub loads : load_of text ≡ Ok tt
  pub counts : count_of rows ≡ length (lines_of text)
  pub tells : (i : ℕ) → i < count_of rows → Tells rows i (drop i (lines_of text))

-- ---- the search

-- the numbers in a column rise
abbrev pub Rises : List ℕ → ℕ → Type 0
Rises rows column = (i j : ℕ) → i < j → j < count_of rows → cell rows i column < cell rows j column

-- as they do in the table of a text, where numbers and places are sought
pub record Ordered (rows : List ℕ) : Type 0 where
  pub few : count_of rows ≤ most_lines
  pub numbers : Rises rows 0
  pub places : Rises rows 1

-- the row that has a number in a column
abbrev pub Finds : List ℕ → ℕ → ℕ → Option Row → Type 0
Finds rows column n (Some row) = (row.0 < count_of rows) × (cell rows row.0 column ≡ n)
Finds rows column n None = (i : ℕ) → i < count_of rows → cell rows i column ≡ n → ⊥
