-- The search in the rows, and what it finds in the table of a text.
use Rattle.std.specs.Prelude.{None, Option, Some, Result, Ok, Err, MatchResult}
use Rattle.std.specs.List.Sorted.{IsSearchInRange, IsBinarySearchResult, IsNonDecreasingBy}
use Rattle.std.specs.Ordering.{nat_cmp, ordering_index}
use Rattle.std.specs.Simd.{first_chunks}
use Rattle.loader.proofs.Chunks.{chunks_long, chunk_at}
use Rattle.std.proofs.lemmas.Cmp.{ranked}
use Rattle.std.proofs.lemmas.List.Sorted.{IsNonDecreasingBy-from_default}
use Rattle.std.proofs.lemmas.Bool.Decides.{nat_tests}
use Rattle.loader.specs.declared.lines.LineSpan.{LineSpan}
use Rattle.rows.specs.declared.cells.Row.{Row}
use mathlib.Core.Path.{◌≡◌, refl, sym, ap, ◌∙◌}
use mathlib.Core.Logic.{⊎_elim}
use mathlib.Core.Bool.{true, false}
use mathlib.Core.List.{List, [], ◌∷◌}
use Prim.Native.Nat.{ℕ, zero, suc, ◌+◌, ◌*◌, ◌≤◌, ◌<◌}
use native.Mathlib.Omega.{arith}
use borrow.Author.Tests.{eq-eqb, ne_eqb}
use lib.Dec.{eqb}
use lib.ListN.{length, get_or, take, drop}
use lib.Seq.{get_or-take, get_or-drop, length-take-le}
use Rattle.whole.proofs.Numbers.{less}
use Rattle.words.specs.declared.places.LineNumber.{LineNumber}
use Rattle.loader.specs.Lines.{Line, lines_of, number_of, first_of, has, from_number, find_line}
use Rattle.loader.proofs.Found.{from_hit, from_miss}
use Rattle.rows.specs.bridge.Rows.{width, count_of, cell, span_in, Tabled, Rises, Finds}
use Rattle.rows.proofs.Ordering.{no_line, row_some, row_rising, row_number, ordered}

-- ---- in the rows

module _ (rows : List ℕ) {k : ℕ} {table : List (List ℕ)} (is : table ≡ take (count_of rows) (first_chunks width k (drop 1 rows))) (few : count_of rows ≤ k) where
  pub table_long : length table ≡ count_of rows
  table_long = ap length is ∙ length-take-le (count_of rows) (first_chunks width k (drop 1 rows)) (omega (arith, chunks_long width k (drop 1 rows)))

  pub table_cell : (i j : ℕ) → i < count_of rows → j < width → get_or (get_or table i []) j 0 ≡ cell rows i j
  table_cell i j h b =
      ap (λ t. get_or (get_or t i []) j 0) is
      ∙ ap (λ r. get_or r j 0) (get_or-take (count_of rows) (first_chunks width k (drop 1 rows)) i [] h)
      ∙ chunk_at width k i j (drop 1 rows) (omega arith) b
      ∙ get_or-drop 1 rows (width * i + j) 0

module _ (rows : List ℕ) (table : List (List ℕ)) (column wanted : ℕ) (long : length table ≡ count_of rows)
    (cells : (i : ℕ) → i < count_of rows → get_or (get_or table i []) column 0 ≡ cell rows i column) (rises : Rises rows column) where
  -- the comparisons with what is sought rise along the rows, as a binary search asks
  comparisons_rise : IsNonDecreasingBy (λ (row : List ℕ). ordering_index (nat_cmp (get_or row column 0) wanted)) table
  comparisons_rise =
      IsNonDecreasingBy-from_default (λ (row : List ℕ). ordering_index (nat_cmp (get_or row column 0) wanted)) table []
      (λ i j le in_range.
      let a = cells i (omega (arith, long)) in
      let b = cells j (omega (arith, long)) in
      let up : get_or (get_or table i []) column 0 ≤ get_or (get_or table j []) column 0 =
      ⊎_elim (λ l. omega (arith, a, b, rises i j l (omega (arith, long)))) (λ l. let e : i ≡ j = omega arith in rw e (omega arith)) (less i j) in
      grind (arith, nat_tests))

  -- so it finds the row, or there is none
  pub searched : (r : Result ℕ ℕ) → IsSearchInRange r (length table)
      → IsBinarySearchResult (λ (row : List ℕ). nat_cmp (get_or row column 0) wanted) table r
      → MatchResult r (λ i. Finds rows column wanted (Some (record { 0 = i }))) (λ _. Finds rows column wanted None)
  searched (Ok i) h equal = let b : i < count_of rows = omega (arith, long) in (b, sym (cells i b) ∙ ranked _ wanted _ (sym (equal [])))
  searched (Err at) h parted = λ i b e.
      let p = parted comparisons_rise in
      ⊎_elim
      (λ l. let q : get_or (get_or table i []) column 0 < wanted = ranked _ wanted _ (sym (p.0 i [] (omega arith) l)) in omega (arith, cells i b))
      (λ l. let q : wanted < get_or (get_or table i []) column 0 = ranked _ wanted _ (sym (p.1 i [] l (omega (arith, long)))) in omega (arith, cells i b))
      (less i at)

-- ---- the line with a number

-- the lines from the first that has it on
from_row : (n : ℕ) (ls : List Line) (k : ℕ) → k < length ls → ((j : ℕ) → j < k → has n (number_of (get_or ls j no_line).bytes) ≡ false)
    → has n (number_of (get_or ls k no_line).bytes) ≡ true → from_number n ls ≡ drop k ls
from_row n [] k h none some = absurd (omega arith)
from_row n (l ∷ ls) zero h none some = from_hit n refl some
from_row n (l ∷ ls) (suc k) h none some =
    from_miss n refl (none 0 (omega arith)) ∙ from_row n ls k (omega arith) (λ j b. none (suc j) (omega arith)) some

from_none : (n : ℕ) (ls : List Line) → ((j : ℕ) → j < length ls → has n (number_of (get_or ls j no_line).bytes) ≡ false) → from_number n ls ≡ []
unfolding from_number
from_none n [] none = refl
from_none n (l ∷ ls) none = from_miss n refl (none 0 (omega arith)) ∙ from_none n ls (λ j b. none (suc j) (omega arith))

-- what is found, by its row
abbrev pub found_in : List ℕ → Option Row → Option LineSpan
found_in rows (Some row) = Some (span_in rows row.0)
found_in rows None = None

module _ {text rows : List ℕ} (t : Tabled text rows) (n : LineNumber) where
  -- a line has the number that its row says
  row_has : (j : ℕ) → j < count_of rows → has n.0 (number_of (get_or (lines_of text) j no_line).bytes) ≡ eqb (cell rows j 0) n.0
  row_has j b =
      let r = rw (row_some t j b) at (row_rising t j b) in
      ap (has n.0) r.0.is ∙ ap (λ x. eqb x n.0) (sym (row_number t j b))

  pub found_number : (r : Option Row) → Finds rows 0 n.0 r → found_in rows r ≡ find_line text n
  found_number (Some row) f =
      sym (ap first_of (from_row n.0 (lines_of text) row.0 (omega (arith, f.0, t.counts))
      (λ j b. row_has j (omega (arith, f.0))
      ∙ ne_eqb (cell rows j 0) n.0 (omega (arith, f.1, (ordered t).numbers j row.0 b f.0)))
      (row_has row.0 f.0 ∙ eq-eqb _ _ f.1))
      ∙ (t.tells row.0 f.0).span)
  found_number None f =
      sym (ap first_of (from_none n.0 (lines_of text)
      (λ j b. let h : j < count_of rows = omega (arith, t.counts) in row_has j h ∙ ne_eqb _ _ (f j h))))
