-- The pairs of a row's line, by the row.
use Rattle.std.specs.Prelude.{Option, ℕ}
use mathlib.Core.Path.{◌≡◌, refl, sym, ap, ap₂, ◌∙◌}
use mathlib.Core.List.{List, [], ◌∷◌, ◌++◌, append-nil}
use Prim.Native.Nat.{ℕ, ◌<◌}
use native.Mathlib.Omega.{arith}
use lib.ListN.{drop}
use Rattle.words.specs.declared.places.LineNumber.{LineNumber}
use Rattle.loader.specs.Lines.{lines_of}
use Rattle.loader.specs.declared.lines.LineSpan.{LineSpan}
use Rattle.loader.proofs.Extents.{lines_at}
use Rattle.loader.proofs.Spans.{body_at, Spanned}
use Rattle.grammar.specs.Trees.{Part}
use Rattle.statements.specs.Parts.{statements_of}
use Rattle.reader.specs.Lines.{Judgement, unreadable, too_deep, holds, judgement, judged_as}
use Rattle.rows.specs.bridge.Rows.{count_of, cell, span_in, verdict_in, verdict_of, verdict_first, Tabled}
use Rattle.rows.proofs.Ordering.{row_lines, row_spanned}
use Rattle.index.specs.Pairs.{Pair, named_by, named_in, pairs_with}
use Rattle.index.specs.bridge.Noting.{first_pairs, Held, NotedAs}

-- a line whose verdict is no 0 names nothing
unread_names : (g : Judgement) → (verdict_of (judged_as g) ≡ 0 → ⊥) → named_in g ≡ []
unread_names unreadable h = refl
unread_names too_deep h = refl
unread_names (holds part) h = absurd (h refl)

-- and one whose verdict is 0 reads
pub record Reads (g : Judgement) : Type 0 where
  pub part : Part
  pub is : g ≡ holds part

read_holds : (g : Judgement) → verdict_of (judged_as g) ≡ 0 → Reads g
read_holds unreadable h = absurd (omega arith)
read_holds too_deep h = absurd (omega arith)
read_holds (holds part) h = record { part = part; is = refl }

module _ {text rows : List ℕ} (t : Tabled text rows) (i : ℕ) (h : i < count_of rows) where
  abbrev body : List ℕ
  body = body_at text (span_in rows i)

  abbrev spans : Spanned text (cell rows i 1) (span_in rows i)
  spans = row_spanned t i h

  lines_here : drop i (lines_of text) ≡ spans.line ∷ lines_at text (span_in rows i).next.0
  lines_here = sym (row_lines t i h) ∙ spans.lines

  verdict_here : verdict_in rows i ≡ verdict_of (judged_as (judgement body))
  verdict_here = (t.tells i h).verdict ∙ ap verdict_first lines_here ∙ ap (λ b. verdict_of (judged_as (judgement b))) (sym spans.bytes)

  pairs_here : first_pairs (drop i (lines_of text)) ≡ pairs_with (cell rows i 0) (named_in (judgement body))
  pairs_here =
      ap first_pairs lines_here
      ∙ ap₂ (λ n b. pairs_with n (named_in (judgement b))) (sym (ap (λ (l : LineNumber). l.0) spans.number)) (sym spans.bytes)

  -- one that does not read has no pairs,
  pub row_unread : (verdict_in rows i ≡ 0 → ⊥) → {pairs : List ℕ} {count : ℕ} (done : List Pair) → Held pairs count done
      → Held pairs count (done ++ first_pairs (drop i (lines_of text)))
  unfolding pairs_with
  row_unread v done k =
      let e = pairs_here ∙ ap (pairs_with (cell rows i 0)) (unread_names (judgement body) (λ z. v (verdict_here ∙ z))) in
      rw (e, append-nil done) k

  module _ {span : LineSpan} (is : span ≡ span_in rows i) where
    pub row_there : Spanned text (cell rows i 1) span
    row_there = rw is spans

    -- and one that reads those of what it names
    pub row_reads : verdict_in rows i ≡ 0 → Reads (judgement (body_at text span))
    row_reads v = rw is (read_holds (judgement body) (sym verdict_here ∙ v))

    pub row_noted : (r : Reads (judgement (body_at text span))) (noted : Option ℕ) (pairs : List ℕ) (done : List Pair)
        → NotedAs noted pairs (done ++ pairs_with span.number.0 (named_by [] (statements_of r.part)))
        → NotedAs noted pairs (done ++ first_pairs (drop i (lines_of text)))
    row_noted r noted pairs done n =
        let e : first_pairs (drop i (lines_of text)) ≡ pairs_with span.number.0 (named_by [] (statements_of r.part))
        = pairs_here ∙ ap (λ (s : LineSpan). pairs_with s.number.0 (named_in (judgement (body_at text s)))) (sym is) ∙ ap (λ g. pairs_with span.number.0 (named_in g)) r.is in
        rw e n
