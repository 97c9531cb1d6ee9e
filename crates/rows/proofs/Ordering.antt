-- The rows of a text's lines: each is the span of its line, and numbers and places rise.
use Rattle.std.specs.Prelude.{Some}
use mathlib.Core.Path.{◌≡◌, refl, sym, ap, ◌∙◌}
use mathlib.Core.Logic.{⊎_elim}
use mathlib.Core.List.{List, [], ◌∷◌, ◌++◌, IsSuffix}
use Prim.Native.Nat.{ℕ, zero, suc, ◌<◌}
use native.Mathlib.Omega.{arith}
use lib.ListN.{length, get_or, take, drop, length-append, take-append-drop}
use lib.Seq.{drop-cons, drop-append_seam}
use Rattle.whole.specs.Digits.{leading_value}
use Rattle.whole.proofs.Numbers.{less}
use Rattle.words.specs.Places.{place}
use Rattle.loader.specs.Lines.{Line, lines_of, next_line, line_at}
use Rattle.loader.proofs.Extents.{lines_at}
use Rattle.loader.proofs.Found.{suffix_at}
use Rattle.loader.proofs.Rising.{Rising, recipe, rising_suffix}
use Rattle.loader.proofs.Spans.{Spanned, spanned_as}
use Rattle.rows.specs.bridge.Rows.{count_of, cell, span_in, Tabled, Ordered}

-- no line: what stands past the last
abbrev pub no_line : Line
no_line = record { start = 0; bytes = []; next = 0 }

-- the lines after the first of those from a row on
pub next_drop : (i : ℕ) (ls : List Line) → next_line (drop i ls) ≡ drop (suc i) ls
next_drop zero [] = refl
next_drop zero (l ∷ ls) = refl
next_drop (suc i) [] = refl
next_drop (suc i) (l ∷ ls) = next_drop i ls

-- where each number is less than the next, each is less than all after it
rising : (v : ℕ → ℕ) (n : ℕ) → ((i : ℕ) → suc i < n → v i < v (suc i)) → (i j : ℕ) → i < j → j < n → v i < v j
rising v n step i zero h b = absurd (omega arith)
rising v n step i (suc j) h b =
    ⊎_elim (λ l. omega (arith, rising v n step i j l (omega arith), step j b))
    (λ l. let e : i ≡ j = omega arith in rw e (step j b))
    (less i j)

module _ {text rows : List ℕ} (t : Tabled text rows) where
  abbrev lines : List Line
  lines = lines_of text

  module _ (i : ℕ) (h : i < count_of rows) where
    -- a line, and those after it
    pub row_some : drop i (lines_of text) ≡ get_or (lines_of text) i no_line ∷ drop (suc i) (lines_of text)
    row_some = drop-cons lines i no_line (omega (arith, t.counts))

    suffix : IsSuffix (drop i lines) lines
    suffix = (take i lines, take-append-drop i lines)

    pub row_rising : Rising 0 (drop i (lines_of text))
    row_rising = rising_suffix 0 suffix (recipe text t.loads).rising

    -- they are the lines from a place on where its line begins
    starts_at : lines_at text (get_or lines i no_line).start ≡ drop i lines
    starts_at = suffix_at text 0 (rw (row_some) at suffix) ∙ sym row_some

    spanned_from : (p : ℕ) → lines_at text p ≡ drop i lines → Spanned text p (span_in rows i)
    spanned_from p e = spanned_as text p (rw e row_rising) (rw e (t.tells i h).span)

    begins : (get_or lines i no_line).start ≡ cell rows i 1
    begins = sym (ap (λ x. x.0) (spanned_from (get_or lines i no_line).start starts_at).starts)

    -- as its row says
    pub row_lines : lines_at text (cell rows i 1) ≡ drop i (lines_of text)
    row_lines = ap (lines_at text) (sym begins) ∙ starts_at

    pub row_spanned : Spanned text (cell rows i 1) (span_in rows i)
    row_spanned = spanned_from (cell rows i 1) row_lines

    pub row_span : line_at text (span_in rows i).place ≡ Some (span_in rows i)
    row_span = rw row_lines (t.tells i h).span

    -- and the line is the one that the text has there
    row_line : row_spanned.line ≡ get_or lines i no_line
    row_line = let s = row_spanned in cc (s.lines, row_lines, row_some)

    pub row_number : cell rows i 0 ≡ leading_value (get_or (lines_of text) i no_line).bytes
    row_number = ap (λ x. x.0) row_spanned.number ∙ ap (λ x. leading_value x.bytes) row_line

    -- what its row says is next are the lines after it
    pub row_rest : lines_at text (cell rows i 4) ≡ drop (suc i) (lines_of text)
    row_rest = let s = row_spanned in cc (s.lines, row_lines, row_some)

  -- every line has its row
  module _ (before : List Line) (p : ℕ) (all : lines_of text ≡ before ++ lines_at text p) {l : Line} {ls : List Line} (here : lines_at text p ≡ l ∷ ls) where
    pub row_inside : length before < count_of rows
    row_inside = omega (arith, t.counts, ap length (all ∙ ap (λ x. before ++ x) here), length-append before (l ∷ ls))

    pub row_there : (span_in rows (length before)).place ≡ place p
    row_there =
        (spanned_from (length before) row_inside p (sym (drop-append_seam before (lines_at text p)) ∙ ap (drop (length before)) (sym all))).starts

  module _ (i : ℕ) (h : suc i < count_of rows) where
    -- so a row's line begins before the next row's,
    place_rises : cell rows i 1 < cell rows (suc i) 1
    place_rises =
        let b : i < count_of rows = omega arith in
        let s = row_spanned i b in
        let e = ap (λ x. x.0) (spanned_from (suc i) h (cell rows i 4) (row_rest i b)).starts in omega (arith, s.onward)

    -- and has a lesser number
    number_rises : cell rows i 0 < cell rows (suc i) 0
    number_rises =
        let b : i < count_of rows = omega arith in
        let r = rw (row_some i b, row_some (suc i) h) at (row_rising i b) in
        omega (arith, r.2.1, row_number i b, row_number (suc i) h)

  pub ordered : Ordered rows
  ordered =
      record {
        few = omega (arith, (recipe text t.loads).few, t.counts);
        numbers = rising (λ i. cell rows i 0) (count_of rows) number_rises;
        places = rising (λ i. cell rows i 1) (count_of rows) place_rises;
      }
