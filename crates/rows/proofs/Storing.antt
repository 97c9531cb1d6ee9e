-- The table as numbers: a row that is written tells what was written, and leaves those before it as they were.
use mathlib.Core.Path.{◌≡◌, refl, ◌∙◌}
use mathlib.Core.List.{List, [], ◌∷◌}
use Prim.Native.Nat.{ℕ, zero, suc, ◌+◌, ◌*◌, ◌≤◌, ◌<◌}
use native.Mathlib.Omega.{arith}
use lib.ListN.{length, get_or, set, length-set}
use lib.Seq.{sets, length-sets, get_or-set_same, get_or-set_other}
use Rattle.loader.specs.Lines.{Line}
use Rattle.loader.specs.declared.lines.LineSpan.{LineSpan}
use Rattle.rows.specs.bridge.Rows.{count_of, cell, width, span_in, verdict_in, put, Tells}

-- ---- numbers stored one after the other

-- below the first nothing changes,
sets_low : (vs l : List ℕ) (i x : ℕ) → x < i → get_or (sets l i vs) x 0 ≡ get_or l x 0
sets_low [] l i x h = refl
sets_low (v ∷ vs) l i x h = sets_low vs (set l i v) (suc i) x (omega arith) ∙ get_or-set_other l i x v 0 (omega arith)

-- and each stands where it was stored
sets_at : (vs l : List ℕ) (i k x : ℕ) → x ≡ i + k → i + length vs ≤ length l → k < length vs → get_or (sets l i vs) x 0 ≡ get_or vs k 0
sets_at [] l i k x e h b = absurd (omega arith)
sets_at (v ∷ vs) l i zero x e h b =
    let q : x ≡ i = omega arith in
    rw q (sets_low vs (set l i v) (suc i) i (omega arith) ∙ get_or-set_same l i v 0 (omega arith))
sets_at (v ∷ vs) l i (suc k) x e h b =
    sets_at vs (set l i v) (suc i) k x (omega arith) (rw (length-set l i v) (omega arith)) (omega arith)

-- ---- a row that is written

module _ (rows : List ℕ) (row : ℕ) (span : LineSpan) (verdict : ℕ) where
  abbrev written : List ℕ
  written = span.number.0 ∷ span.place.0 ∷ span.body.0 ∷ span.end.0 ∷ span.next.0 ∷ verdict ∷ []

  cell-put : 1 + width * row + width ≤ length rows → (k : ℕ) → k < width → cell (put rows row span verdict) row k ≡ get_or written k 0
  cell-put h k b = sets_at written rows (1 + width * row) k (1 + (width * row + k)) (omega arith) h b

  cell_kept : (i k : ℕ) → i < row → k < width → cell (put rows row span verdict) i k ≡ cell rows i k
  cell_kept i k h b = sets_low written rows (1 + width * row) (1 + (width * i + k)) (omega arith)

  pub put-length : length (put rows row span verdict) ≡ length rows
  put-length = length-sets rows (1 + width * row) written

  -- it has the span and the verdict,
  pub put_span : 1 + width * row + width ≤ length rows → span_in (put rows row span verdict) row ≡ span
  put_span h =
      rw (cell-put h 0 (omega arith), cell-put h 1 (omega arith), cell-put h 2 (omega arith), cell-put h 3 (omega arith), cell-put h 4 (omega arith))

  pub put_verdict : 1 + width * row + width ≤ length rows → verdict_in (put rows row span verdict) row ≡ verdict
  put_verdict h = cell-put h 5 (omega arith)

  -- and what a row before it tells it still does
  pub put_kept : (i : ℕ) (ls : List Line) → i < row → Tells rows i ls → Tells (put rows row span verdict) i ls
  put_kept i ls h t =
      record {
        span = t.span
            ∙ rw (cell_kept i 0 h (omega arith), cell_kept i 1 h (omega arith), cell_kept i 2 h (omega arith), cell_kept i 3 h (omega arith), cell_kept i 4 h (omega arith));
        verdict = cell_kept i 5 h (omega arith) ∙ t.verdict;
      }

-- ---- the count at the front

module _ (rows : List ℕ) (n : ℕ) where
  cell_counted : (i k : ℕ) → cell (set rows 0 n) i k ≡ cell rows i k
  cell_counted i k = get_or-set_other rows 0 (1 + (width * i + k)) n 0 (omega arith)

  pub counted : 0 < length rows → count_of (set rows 0 n) ≡ n
  counted h = get_or-set_same rows 0 n 0 h

  -- is no part of a row
  pub counted_kept : (i : ℕ) (ls : List Line) → Tells rows i ls → Tells (set rows 0 n) i ls
  counted_kept i ls t =
      record {
        span = t.span ∙ rw (cell_counted i 0, cell_counted i 1, cell_counted i 2, cell_counted i 3, cell_counted i 4);
        verdict = cell_counted i 5 ∙ t.verdict;
      }
