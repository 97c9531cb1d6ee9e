-- The table of a text's lines is the one that its index begins with.
use mathlib.Core.Path.{◌≡◌, refl, ap, ◌∙◌}
use mathlib.Core.List.{List, [], ◌∷◌, ◌++◌}
use Prim.Native.Nat.{ℕ, suc, ◌+◌, ◌*◌, ◌≤◌, ◌<◌}
use native.Mathlib.Omega.{arith}
use lib.ListN.{length, get_or, take, drop}
use Rattle.whole.specs.Digits.{leading_digits, leading_value}
use Rattle.whole.proofs.Reading.{drop_next}
use Rattle.words.specs.Places.{place, line_number}
use Rattle.words.specs.declared.places.Place.{Place}
use Rattle.words.specs.declared.places.LineNumber.{LineNumber}
use Rattle.loader.specs.Lines.{Line, lines_of, after_number}
use Rattle.loader.proofs.Rising.{Sound, Rising, recipe}
use Rattle.reader.specs.Lines.{Judgement, unreadable, too_deep, holds, judgement, judged_as}
use Rattle.rows.specs.bridge.Rows.{count_of, cell, cells, span_in, verdict_of, Tells, Tabled}
use Rattle.index.specs.Index.{error_in, row_of, rows_of, line_table}

-- ---- six words of a list

step : (l : List ℕ) (k j : ℕ) → k + j < length l → drop (k + j) l ≡ get_or l (k + j) 0 ∷ drop (k + (j + 1)) l
step l k j h = let e : k + j + 1 ≡ k + (j + 1) = omega arith in drop_next l (k + j) h ∙ ap (λ m. get_or l (k + j) 0 ∷ drop m l) e

abbrev six_at : List ℕ → ℕ → List ℕ → List ℕ
six_at l k rest = get_or l (k + 0) 0 ∷ get_or l (k + 1) 0 ∷ get_or l (k + 2) 0 ∷ get_or l (k + 3) 0 ∷ get_or l (k + 4) 0 ∷ get_or l (k + 5) 0 ∷ rest

six : (l : List ℕ) (k : ℕ) → k + 6 ≤ length l → drop k l ≡ six_at l k (drop (k + 6) l)
six l k h =
    let z : k ≡ k + 0 = omega arith in
    ap (λ m. drop m l) z
    ∙ step l k 0 (omega arith)
    ∙ ap (λ t. get_or l (k + 0) 0 ∷ t) (step l k 1 (omega arith)
    ∙ ap (λ t. get_or l (k + 1) 0 ∷ t) (step l k 2 (omega arith)
    ∙ ap (λ t. get_or l (k + 2) 0 ∷ t) (step l k 3 (omega arith)
    ∙ ap (λ t. get_or l (k + 3) 0 ∷ t) (step l k 4 (omega arith)
    ∙ ap (λ t. get_or l (k + 4) 0 ∷ t) (step l k 5 (omega arith))))))

-- ---- the row of a line

pub verdict_error : (g : Judgement) → verdict_of (judged_as g) ≡ error_in g
verdict_error unreadable = refl
verdict_error too_deep = refl
verdict_error (holds part) = refl

-- what a row tells of a line are the words of its row
row_words : (rows : List ℕ) (i : ℕ) (l : Line) (ls : List Line) → Tells rows i (l ∷ ls) → Sound l.bytes → (rest : List ℕ)
    → six_at rows (1 + 6 * i) rest ≡ row_of l ++ rest
row_words rows i l ls t s rest =
    let f = rw s.is at t.span in
    let number : (span_in rows i).number ≡ line_number (leading_value l.bytes) = cc in
    let first : (span_in rows i).place ≡ place l.start = cc in
    let body : (span_in rows i).body ≡ place (l.start + length (leading_digits l.bytes)) = cc in
    let end : (span_in rows i).end ≡ place (l.start + length l.bytes) = cc in
    let next : (span_in rows i).next ≡ place l.next = cc in
    let at : (k : ℕ) → get_or rows (1 + 6 * i + k) 0 ≡ cell rows i k = λ k. let e : 1 + 6 * i + k ≡ 1 + (6 * i + k) = omega arith in ap (λ m. get_or rows m 0) e in
    rw (
      at 0,
      at 1,
      at 2,
      at 3,
      at 4,
      at 5,
      ap (λ (x : LineNumber). x.0) number,
      ap (λ (x : Place). x.0) first,
      ap (λ (x : Place). x.0) body,
      ap (λ (x : Place). x.0) end,
      ap (λ (x : Place). x.0) next,
      t.verdict,
      verdict_error (judgement (after_number l)),
    )

-- ---- the rows of all lines

rows_words : (rows : List ℕ) (i : ℕ) (ls : List Line) (floor : ℕ) → ((j : ℕ) → j < length ls → Tells rows (i + j) (drop j ls)) → Rising floor ls
    → 1 + 6 * (i + length ls) ≤ length rows → take (6 * length ls) (drop (1 + 6 * i) rows) ≡ rows_of ls
unfolding rows_of
rows_words rows i [] floor t r h = refl
rows_words rows i (l ∷ ls) floor t r h =
    let n : 6 * suc (length ls) ≡ suc (suc (suc (suc (suc (suc (6 * length ls)))))) = omega arith in
    let z : i + 0 ≡ i = omega arith in
    let on : 1 + 6 * i + 6 ≡ 1 + 6 * (i + 1) = omega arith in
    let first : Tells rows i (l ∷ ls) = rw z at (t 0 (omega arith)) in
    let rest = rows_words rows (i + 1) ls (leading_value l.bytes + 1)
    (λ j b. let e : i + suc j ≡ i + 1 + j = omega arith in rw e at (t (suc j) (omega arith))) r.2 (omega arith) in
    ap (λ k. take k (drop (1 + 6 * i) rows)) n
    ∙ ap (take (suc (suc (suc (suc (suc (suc (6 * length ls)))))))) (six rows (1 + 6 * i) (omega arith) ∙ row_words rows i l ls first r.0 (drop (1 + 6 * i + 6) rows))
    ∙ ap (λ t. row_of l ++ take (6 * length ls) (drop t rows)) on
    ∙ ap (λ t. row_of l ++ t) rest

pub table_words : {text rows : List ℕ} → Tabled text rows → length rows ≡ cells → take (1 + 6 * count_of rows) rows ≡ line_table (lines_of text)
table_words {text} {rows} t long =
    let r = recipe text t.loads in
    let w = rows_words rows 0 (lines_of text) 0 (λ j b. let z : 0 + j ≡ j = omega arith in rw z (t.tells j (omega (arith, t.counts)))) r.rising
    (omega (arith, r.few, long)) in
    let n : 1 + 6 * count_of rows ≡ suc (6 * length (lines_of text)) = omega (arith, t.counts) in
    ap (λ k. take k rows) n
    ∙ ap (take (suc (6 * length (lines_of text)))) (drop_next rows 0 (omega (arith, long)))
    ∙ ap (λ c. c ∷ take (6 * length (lines_of text)) (drop 1 rows)) t.counts
    ∙ ap (λ t. length (lines_of text) ∷ t) w
