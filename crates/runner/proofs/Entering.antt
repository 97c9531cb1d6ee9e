-- A line entered from its start, and what is left of one: the code's standing, by a row of the table, beside the definition's.
use Rattle.std.specs.Prelude.{None, Option, Some}
use Rattle.std.specs.Option.{unwrap_or}
use mathlib.Core.Path.{◌≡◌, refl, sym, ap, ◌∙◌}
use mathlib.Core.Bool.{true, false}
use mathlib.Core.List.{List, ◌∷◌, ◌++◌}
use Prim.Native.Nat.{ℕ, suc, ◌+◌, ◌≤◌, ◌<◌}
use native.Mathlib.Omega.{arith}
use native.Mathlib.Numerals.{add-one}
use lib.ListN.{get_or, take, drop, take-append-drop, drop_of_length-le}
use Rattle.whole.specs.declared.errors.Error.TheVariants.{Syntax, FormulaTooComplex}
use Rattle.words.specs.Places.{place, line_number}
use Rattle.words.specs.declared.places.Place.{Place}
use Rattle.words.specs.declared.symbols.Scanned.{Scanned}
use Rattle.loader.specs.Lines.{Line, lines_of}
use Rattle.grammar.specs.Trees.{Part}
use Rattle.statements.specs.Statements.{good_part, part_of}
use Rattle.statements.proofs.Firsts.{true_part}
use Rattle.statements.proofs.Views.{line_view}
use Rattle.reader.specs.Lines.{Judgement, unreadable, too_deep, holds, judgement, judged_as}
use Rattle.reader.proofs.Judging.{held, holds_shallow}
use Rattle.rows.specs.bridge.Rows.{count_of, cell, span_in, verdict_in, verdict_of, Finds, Tabled}
use Rattle.rows.specs.declared.cells.Row.{Row}
use Rattle.rows.proofs.Ordering.{no_line, next_drop, row_some, row_lines, row_span, row_number, row_inside, row_there}
use Rattle.machine.specs.Machine.{Machine}
use Rattle.machine.specs.bridge.Holding.{Shallow, lines_at, body_of, position_of, Begins, Positioned}
use Rattle.machine.specs.declared.positions.Position.{Position}
use Rattle.runner.specs.Run as run
use Rattle.runner.specs.Run.{enter, judged_line, faulty}
use Rattle.runner.specs.bridge.Standings.{AtAs, OverAs, StandsAs, RowOf}
use Rattle.runner.specs.declared.running.Outcome.TheVariants.{Ended, Failed}
use Rattle.runner.specs.declared.standing.Standing.{Standing}

-- ---- the verdict of a line, and the definition's judgement

verdict_bad : (g : Judgement) → (verdict_of (judged_as g) ≡ 0 → ⊥) → (verdict_of (judged_as g) ≡ 16 → ⊥) → judged_line g ≡ faulty Syntax
verdict_bad unreadable a b = refl
verdict_bad too_deep a b = absurd (b refl)
verdict_bad (holds p) a b = absurd (a refl)

verdict_deep : (g : Judgement) → verdict_of (judged_as g) ≡ 16 → judged_line g ≡ faulty FormulaTooComplex
verdict_deep unreadable e = absurd (omega arith)
verdict_deep too_deep e = refl
verdict_deep (holds p) e = absurd (omega arith)

record Opens (g : Judgement) : Type 0 where
  part : Part
  is : g ≡ holds part

verdict_reads : (g : Judgement) → verdict_of (judged_as g) ≡ 0 → Opens g
verdict_reads unreadable e = absurd (omega arith)
verdict_reads too_deep e = absurd (omega arith)
verdict_reads (holds p) e = record { part = p; is = refl }

-- ---- a line entered

enter_some : {lines : List Line} {l : Line} {ls : List Line} → lines ≡ l ∷ ls → enter lines ≡ judged_line (judgement (body_of lines))
unfolding enter
enter_some e = rw e

module _ {text rows : List ℕ} (t : Tabled text rows) (i : ℕ) where
  abbrev left : List Line
  left = drop i (lines_of text)

  -- past the last none is left
  pub enter_none : count_of rows ≤ i → (m : Machine) → OverAs Ended m (run.entering m left)
  unfolding enter
  enter_none h m = record { begun = refl; is = rw (drop_of_length-le (lines_of text) {i = i} (omega (arith, t.counts))) }

  module _ (h : i < count_of rows) where
    pub row_begins : Begins text (span_in rows i).place.0
    row_begins =
        record {
          before = take i (lines_of text);
          first = get_or (lines_of text) i no_line;
          others = drop (suc i) (lines_of text);
          here = row_lines t i h ∙ row_some t i h;
          all = sym (take-append-drop i (lines_of text)) ∙ ap (λ x. take i (lines_of text) ++ x) (sym (row_lines t i h));
        }

    -- a statement of a row's line
    at_row : {at : Place} {m : Machine} {s : run.Standing} {part : Part} {end : Scanned} → part_of (body_of left) true at.0 ≡ good_part part end
        → Shallow part → s ≡ run.at m left part → AtAs text (span_in rows i) at m s
    at_row {part = part} {end = end} e low is =
        record {
          stood = record {
            loads = t.loads;
            begins = row_begins;
            spans = row_span t i h;
            reads = record { of = part; end = end; is = rw (row_lines t i h) e; shallow = low };
          };
          is = rw (row_lines t i h) is;
        }

    pub row_numbered : run.line_number_of left ≡ (span_in rows i).number
    row_numbered = rw (row_some t i h) (ap line_number (sym (row_number t i h)))

    verdict : verdict_in rows i ≡ verdict_of (judged_as (judgement (body_of left)))
    verdict = let v = (t.tells i h).verdict in rw (row_some t i h) (rw (row_some t i h) at v)

    begun : (m : Machine) {x : run.Entered} → judged_line (judgement (body_of left)) ≡ x → run.entering m left ≡ run.by_entered x m left
    begun m f = ap (λ y. run.by_entered y m left) (enter_some (row_some t i h) ∙ f)

    -- a line does not read,
    pub enter_bad : (verdict_in rows i ≡ 0 → ⊥) → (verdict_in rows i ≡ 16 → ⊥) → (m : Machine)
        → OverAs (Failed Syntax (span_in rows i).number) m (run.entering m left)
    enter_bad a b m =
        record { begun = refl; is = rw (← row_numbered) (begun m (verdict_bad (judgement (body_of left)) (λ e. a (verdict ∙ e)) (λ e. b (verdict ∙ e)))) }

    -- it nests too deep,
    pub enter_deep : verdict_in rows i ≡ 16 → (m : Machine) → OverAs (Failed FormulaTooComplex (span_in rows i).number) m (run.entering m left)
    enter_deep e m = record { begun = refl; is = rw (← row_numbered) (begun m (verdict_deep (judgement (body_of left)) (sym verdict ∙ e))) }

    -- or the run stands at its first statement
    pub enter_reads : verdict_in rows i ≡ 0 → (m : Machine) → AtAs text (span_in rows i) (place 0) m (run.entering m left)
    enter_reads e m =
        let o = verdict_reads (judgement (body_of left)) (sym verdict ∙ e) in
        let v = line_view (body_of left) (held (body_of left) o.is) in
        at_row (true_part (body_of left) 0 v.from) (holds_shallow (body_of left) o.is) (begun m (ap judged_line o.is))

-- ---- the row of a line's place

-- that was found,
row_found : {rows : List ℕ} (line : Place) {row : Row} → row.0 < count_of rows → cell rows row.0 1 ≡ line.0 → RowOf rows line row
row_found line h e = record { inside = h; is = λ text t b. ap place e }

-- and there is one
row_missing : {rows : List ℕ} (line : Place) (row : Row) → row.0 < count_of rows → Finds rows 1 line.0 None → RowOf rows line row
row_missing line row h f =
    record {
      inside = h;
      is = λ text t b.
          absurd (f _ (row_inside t b.before line.0 b.all b.here) (ap (λ x. x.0) (row_there t b.before line.0 b.all b.here)));
    }

-- from it on, the lines are those at the place
pub row_of_lines : {text rows : List ℕ} {line : Place} {row : Row} → RowOf rows line row → Tabled text rows → Begins text line.0
    → lines_at text line.0 ≡ drop row.0 (lines_of text)
row_of_lines {text} {row = row} w t b = ap (λ x. lines_at text x.0) (sym (w.is text t b)) ∙ row_lines t row.0 w.inside

-- the one that was found, or another where none was
pub row_given : {rows : List ℕ} (line : Place) (row : Row) → row.0 < count_of rows → (found : Option Row) → Finds rows 1 line.0 found → RowOf rows line (unwrap_or found row)
row_given line row h (Some other) f = row_found line f.0 f.1
row_given line row h None f = row_missing line row h f

-- ---- what is left of a line

module _ {text rows : List ℕ} {q : Position} {row : Row} (r : RowOf rows q.line row) (t : Tabled text rows) (w : Positioned text q) (m : Machine) where
  here : lines_at text q.line.0 ≡ drop row.0 (lines_of text)
  here = row_of_lines r t w.begins

  -- the next line is entered,
  pub onward_over : q.over ≡ true → (s : Standing) → StandsAs text rows s m (run.entering m (drop (row.0 + 1) (lines_of text)))
      → StandsAs text rows s m (run.onward m (position_of text q).lines (position_of text q).rest)
  onward_over o s h = rw (o, here, next_drop row.0 (lines_of text)) (rw add-one at h)

  -- or the run stands at the next statement
  pub onward_at : q.over ≡ false → AtAs text (span_in rows row.0) q.at m (run.onward m (position_of text q).lines (position_of text q).rest)
  onward_at o =
      let d = w.reads o in
      at_row t row.0 r.inside (rw here at d.is) d.shallow (rw (o, here) (rw (rw here at d.is)))
