-- The table while it is made: the rows so far tell the lines so far, and the lines from the one reached on are left.
use Rattle.std.specs.Prelude.{None, Ok, Some}
use mathlib.Core.Path.{◌≡◌, refl, sym, ap, ◌∙◌}
use mathlib.Core.Logic.{⊎_elim}
use mathlib.Core.List.{List, ◌∷◌}
use Prim.Native.Nat.{ℕ, ◌+◌, ◌*◌, ◌≤◌, ◌<◌}
use native.Mathlib.Omega.{arith}
use native.Mathlib.Numerals.{add-one}
use lib.ListN.{length, take, drop, set, length-drop, take-append-drop, drop_of_length-le}
use Rattle.whole.proofs.Numbers.{less}
use Rattle.whole.proofs.Never.{never}
use Rattle.words.specs.Places.{place}
use Rattle.loader.specs.Lines.{lines_of, next_line, first_of, line_at}
use Rattle.loader.specs.Loading.{load_of}
use Rattle.loader.specs.declared.lines.LineSpan.{LineSpan}
use Rattle.loader.proofs.Extents.{lines_at}
use Rattle.loader.proofs.Rising.{Rising, recipe, rising_suffix}
use Rattle.loader.proofs.Spans.{body_at, Spanned, spanned_as, none_left}
use Rattle.reader.specs.Lines.{judged_of}
use Rattle.rows.specs.bridge.Rows.{width, cells, verdict_of, verdict_first, put, Small, Tells, Tabled}
use Rattle.rows.proofs.Ordering.{next_drop}
use Rattle.rows.proofs.Storing.{put-length, put_span, put_verdict, put_kept, counted, counted_kept}

pub record Filled (text rows : List ℕ) (p row : ℕ) : Type 0 where
  pub long : length rows ≡ cells
  pub left : lines_at text p ≡ drop row (lines_of text)
  pub within : row ≤ length (lines_of text)
  pub tells : (i : ℕ) → i < row → Tells rows i (drop i (lines_of text))

-- none at first
pub filled_none : (text rows : List ℕ) → length rows ≡ cells → Filled text rows 0 0
filled_none text rows h = record { long = h; left = refl; within = omega arith; tells = λ i h. absurd (omega arith) }

module _ {text rows : List ℕ} {p row : ℕ} (loads : load_of text ≡ Ok tt) (f : Filled text rows p row) where
  left_rising : Rising 0 (lines_at text p)
  left_rising = rw f.left (rising_suffix 0 (take row (lines_of text), take-append-drop row (lines_of text)) (recipe text loads).rising)

  -- where no line is left, each has its row
  pub filled_all : line_at text (place p) ≡ None → row ≡ length (lines_of text)
  filled_all e =
      let n = ap length (sym f.left ∙ none_left (lines_at text p) left_rising e) in
      omega (arith, length-drop row (lines_of text), f.within)

  pub filled_few : row ≤ 512
  filled_few = omega (arith, f.within, (recipe text loads).few)

  pub filled_tabled : line_at text (place p) ≡ None → Tabled text (set rows 0 row)
  filled_tabled e =
      let h : 0 < length rows = omega (arith, f.long) in
      record {
        loads = loads;
        counts = counted rows row h ∙ filled_all e;
        tells = λ i b. counted_kept rows row i (drop i (lines_of text)) (f.tells i (rw (counted rows row h) at b));
      }

  module _ {span : LineSpan} (e : line_at text (place p) ≡ Some span) where
    -- a line that is found
    pub filled_spanned : Spanned text p span
    filled_spanned = spanned_as text p left_rising e

    pub filled_small : Small span
    filled_small =
        let s = filled_spanned in
        let b = (recipe text loads).short in
        record {
          place = omega (arith, s.onward, s.inside, ap (λ x. x.0) s.starts);
          body = omega (arith, s.low, s.high);
          end = omega (arith, s.high);
          next = omega (arith, s.inside);
        }

    -- is one of the text's,
    some_left : row < length (lines_of text)
    some_left =
        ⊎_elim (λ h. h) (λ h. let z = sym filled_spanned.lines ∙ f.left ∙ drop_of_length-le (lines_of text) h in never (cc))
        (less row (length (lines_of text)))

    pub filled_room : 1 + width * row + width ≤ length rows
    filled_room = omega (arith, some_left, (recipe text loads).few, f.long)

    -- and gets its row
    pub filled_on : {verdict : ℕ} → verdict ≡ verdict_of (judged_of (body_at text span)) → Filled text (put rows row span verdict) span.next.0 (row + 1)
    filled_on {verdict} v =
        let h = filled_room in
        let s = filled_spanned in
        let all = lines_of text in
        let here : drop row all ≡ s.line ∷ lines_at text span.next.0 = sym f.left ∙ s.lines in
        record {
          long = put-length rows row span verdict ∙ f.long;
          left = rw add-one (sym (ap next_line here) ∙ next_drop row all);
          within = omega (arith, some_left);
          tells = λ i b.
              ⊎_elim (λ k. put_kept rows row span verdict i (drop i all) k (f.tells i k))
              (λ k. let q : i ≡ row = omega arith in
              rw q
              (record {
                span = sym (ap first_of f.left) ∙ e ∙ ap Some (sym (put_span rows row span verdict h));
                verdict = put_verdict rows row span verdict h ∙ v ∙ ap (λ x. verdict_of (judged_of x)) s.bytes ∙ sym (ap verdict_first here);
              }))
              (less i row);
        }
