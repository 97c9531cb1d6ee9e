-- What an index answers, whatever words it holds: the first of its rows with a number tells where a line starts, and its pairs tell the lines
-- that name it, as many as a text has lines at most.
use Rattle.words.specs.declared.places.Place.{Place}
use Rattle.std.specs.Prelude.{cond, List, [], ℕ, zero, suc, ◌+◌, min, eqb, get_or, take, drop, None, Option, Some}
use Rattle.words.specs.Places.{place}
use Rattle.words.specs.declared.places.LineNumber.{LineNumber}
use Rattle.loader.specs.Loading.{most_lines}
use Rattle.index.specs.Callers.{in_front_if}
use Rattle.index.specs.Index.{row_width, pairs_at, most_pairs}

-- in so many rows
unfoldable pub start_among : ℕ → ℕ → List ℕ → Option Place
start_among n zero rows = None
start_among n (suc k) rows = cond (eqb (get_or rows 0 0) n) (Some (place (get_or rows 1 0))) (start_among n k (drop row_width rows))

abbrev pub line_in : List ℕ → LineNumber → Option Place
line_in index n = start_among n.0 (min (get_or index 0 0) most_lines) (drop 1 index)

-- in so many pairs
unfoldable pub naming_among : ℕ → ℕ → List ℕ → List ℕ
naming_among n zero pairs = []
naming_among n (suc k) pairs = in_front_if (eqb (get_or pairs 0 0) n) (get_or pairs 1 0) (naming_among n k (drop 2 pairs))

abbrev pub callers_in : List ℕ → LineNumber → List ℕ
callers_in index n = take most_lines (naming_among n.0 (min (get_or index pairs_at 0) most_pairs) (drop (pairs_at + 1) index))
