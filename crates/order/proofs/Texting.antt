-- The statements of a text that loads, line after line: what the line at a place adds, and what a spot in it has ahead.
use Rattle.std.specs.Prelude.{None, Ok, Some}
use mathlib.Core.Path.{◌≡◌, refl, sym, ◌∙◌, ap}
use mathlib.Core.Bool.{true}
use mathlib.Core.List.{List, [], ◌∷◌, ◌++◌, append_assoc, cons-ne-nil}
use Prim.Native.Nat.{ℕ, ◌+◌, ◌-◌, ◌≤◌, ◌<◌}
use native.Mathlib.Omega.{arith}
use lib.ListN.{take, drop}
use Rattle.words.specs.Places.{place}
use Rattle.words.specs.declared.places.Place.{Place}
use Rattle.words.specs.declared.symbols.Scanned.{Scanned}
use Rattle.loader.specs.Lines.{line_at, next_line}
use Rattle.loader.specs.Loading.{load_of}
use Rattle.loader.specs.declared.lines.LineSpan.{LineSpan}
use Rattle.grammar.specs.Trees.{Part}
use Rattle.scanner.specs.Tokens.{token_at}
use Rattle.skimming.specs.bridge.Remaining.{weight}
use Rattle.skimming.proofs.Weights.{token_weight}
use Rattle.statements.specs.Statements.{part_of}
use Rattle.statements.specs.Statements.{good_part}
use Rattle.statements.specs.Parts.{parts_of}
use Rattle.reader.specs.Lines.{judgement}
use Rattle.reader.specs.bridge.Walking.{Onto}
use Rattle.machine.specs.bridge.Holding.{lines_at, body_of, Begins}
use Rattle.machine.proofs.Standing as standing
use Rattle.machine.proofs.Standing.{reaches_next, Told, told_as, none_here, reached_some, reached_none}
use Rattle.machine.specs.Order.{parts_held, parts_in, beyond, Stand, placed, stands, later}
use Rattle.order.specs.bridge.Walking.{Passes, Reached, Lined, lines_from, Ahead, left_at, left_from}
use Rattle.order.specs.declared.texts.Spot.{Spot}
use Rattle.reader.proofs.Judging.{held}
use Rattle.reader.proofs.Visits.{line_onto, visit}
use Rattle.order.proofs.Rising.{rises, beyond_last}

-- the bytes of a text that a span says to read
abbrev pub body_at : List ℕ → LineSpan → List ℕ
body_at text span = take (span.end.0 - span.body.0) (drop span.body.0 text)

abbrev reaches : {text : List ℕ} {p : ℕ} → Reached text p → standing.Reaches text p
reaches w = record { before = w.before; all = w.all }

-- ---- the line at a place

-- a text loads, and the line that begins at a place of it has a span
pub record Here (text : List ℕ) (p : ℕ) (span : LineSpan) : Type 0 where
  pub loads : load_of text ≡ Ok tt
  pub begins : Begins text p
  pub is : line_at text (place p) ≡ Some span

pub here_reached : {text : List ℕ} {p : ℕ} → Reached text p → {span : LineSpan} → line_at text (place p) ≡ Some span → Here text p span
here_reached w e = record { loads = w.loads; begins = reached_some (reaches w) e; is = e }

pub here_lined : {text : List ℕ} {p : ℕ} → Lined text p → {span : LineSpan} → line_at text (place p) ≡ Some span → Here text p span
here_lined w e = record { loads = w.loads; begins = w.begins; is = e }

pub here_ahead : {text : List ℕ} {spot : Spot} {xs : List Stand} → Ahead text spot xs → Here text spot.line.place.0 spot.line
here_ahead a = record { loads = a.loads; begins = a.begins; is = a.spans }

-- one does begin there
pub not_none : {P : Type 0} {text : List ℕ} {p : ℕ} → Lined text p → line_at text (place p) ≡ None → P
not_none w e = none_here w.begins w.loads e

module _ {text : List ℕ} {p : ℕ} {span : LineSpan} (h : Here text p span) where
  pub told : Told text p span
  told = told_as h.begins h.loads h.is

  -- the lines after it
  pub reached_next : Reached text span.next.0
  reached_next =
      let t = told in
      let r = reaches_next h.begins t.here in
      rw t.next (record { loads = h.loads; before = r.before; all = r.all })

  -- what it adds, and what they do
  pub stands_here : stands (lines_at text p) ≡ placed (lines_at text p) (parts_held (judgement (body_at text span))) ++ stands (lines_at text span.next.0)
  unfolding stands
  stands_here = let t = told in rw (t.body, t.rest, t.here)

  pub later_here : (at : ℕ) → later at (lines_at text p)
      ≡ placed (lines_at text p) (beyond at (parts_held (judgement (body_at text span)))) ++ stands (lines_at text span.next.0)
  unfolding later
  later_here at = let t = told in rw (t.body, t.rest, t.here)

  parts_here : parts_in (lines_at text p) ≡ parts_held (judgement (body_at text span))
  parts_here = let t = told in rw (t.body, t.here)

  -- from a place of it on
  pub ahead_here : (at : Place) (before parts : List Part) → parts_held (judgement (body_at text span)) ≡ before ++ parts
      → Onto (body_at text span) at.0 parts
      → Ahead text (record { line = span; at = at }) (placed (lines_at text p) parts ++ stands (lines_at text span.next.0))
  ahead_here at before parts w o =
      let t = told in
      record {
        loads = h.loads;
        begins = rw t.starts h.begins;
        spans = ap (line_at text) t.starts ∙ h.is;
        before = before;
        parts = parts;
        whole = ap (λ q. parts_in (lines_at text q.0)) t.starts ∙ parts_here ∙ w;
        onto = rw (t.starts, ← t.body) o;
        all = rw (t.starts, t.rest, t.here);
      }

  -- a place of it has less left than the line has, and it more than the next line
  pub left_here : (at : Place) → left_at text (record { line = span; at = at }) ≤ left_from text p
  left_here at =
      let t = told in
      let w = token_weight (body_of (lines_at text p)) (place at.0) in
      rw t.starts (omega (arith, w, t.short))

  pub left_next : (at : Place) → left_from text span.next.0 < left_at text (record { line = span; at = at })
  left_next at = let t = told in rw t.starts (omega (arith, t.onward, t.inside))

  pub left_step : (at q : Place)
      → weight (body_at text span) (token_at (body_at text span) (place q.0)) + 4 ≤ weight (body_at text span) (token_at (body_at text span) (place at.0))
      → left_at text (record { line = span; at = q }) < left_at text (record { line = span; at = at })
  left_step at q l = let t = told in let k = rw t.body at l in rw t.starts (omega (arith, k))

-- ---- entering

-- past the last line there are none
pub enter_over : {text : List ℕ} {p : ℕ} → Reached text p → line_at text (place p) ≡ None → stands (lines_at text p) ≡ []
unfolding stands
enter_over w e = rw (reached_none (reaches w) w.loads e)

module _ {text : List ℕ} {p : ℕ} {span : LineSpan} (h : Here text p span) where
  -- a line that passes begins with the first
  pub enter_at : Passes (body_at text span) → Ahead text (record { line = span; at = place 0 }) (stands (lines_at text p))
  enter_at k =
      rw (stands_here h, k.is) (ahead_here h (place 0) [] (parts_of k.part) (ap parts_held k.is) (line_onto (body_at text span) k.part (held (body_at text span) k.is)))

  -- and one that doesn't has none
  pub enter_next : parts_held (judgement (body_at text span)) ≡ [] → stands (lines_at text span.next.0) ≡ stands (lines_at text p)
  unfolding placed
  enter_next e = sym (stands_here h ∙ rw e)

  pub later_next : (at : ℕ) → parts_held (judgement (body_at text span)) ≡ [] → stands (lines_at text span.next.0) ≡ later at (lines_at text p)
  unfolding placed beyond
  later_next at e = sym (later_here h at ∙ rw e)

  -- past a place of a line that passes
  pub later_at : (at : ℕ) (k : Passes (body_at text span)) (q : Place) → Onto (body_at text span) q.0 (beyond at (parts_of k.part))
      → Ahead text (record { line = span; at = q }) (later at (lines_at text p))
  later_at at k q o =
      let r = rises (body_at text span) (parts_of k.part) 0 (line_onto (body_at text span) k.part (held (body_at text span) k.is)) in
      let f = beyond_last (body_at text span) at 0 (parts_of k.part) r in
      rw (later_here h at, k.is) (ahead_here h q f.front (beyond at (parts_of k.part)) (ap parts_held k.is ∙ f.is) o)

  pub later_over : (at : ℕ) (k : Passes (body_at text span)) → beyond at (parts_of k.part) ≡ []
      → stands (lines_at text span.next.0) ≡ later at (lines_at text p)
  unfolding placed
  later_over at k e = sym (later_here h at ∙ rw (k.is, e))

-- ---- going on

-- the statement at a spot, those of its line after it, and those of the lines after it
pub record Parting (text : List ℕ) (spot : Spot) (x : Stand) (xs : List Stand) : Type 0 where
  pub before : List Part
  pub first : Part
  pub others : List Part
  pub whole : parts_held (judgement (body_at text spot.line)) ≡ before ++ (first ∷ others)
  pub onto : Onto (body_at text spot.line) spot.at.0 (first ∷ others)
  pub end : Scanned
  pub reads : part_of (body_at text spot.line) true spot.at.0 ≡ good_part first end
  pub is : x ≡ record { lines = lines_from text spot; part = first }
  pub rest : xs ≡ placed (lines_from text spot) others ++ stands (lines_at text spot.line.next.0)

-- there is one at a spot
pub not_over : {text : List ℕ} {spot : Spot} → Ahead text spot [] → ⊥
unfolding placed
not_over {text} {spot} a =
    let s = visit (body_of (lines_from text spot)) spot.at.0 a.onto refl refl in
    let e = a.all ∙ ap (λ ys. placed (lines_from text spot) ys ++ stands (next_line (lines_from text spot))) s.all in
    cons-ne-nil _ _ (sym e)

pub parting : {text : List ℕ} {spot : Spot} {x : Stand} {xs : List Stand} → Ahead text spot (x ∷ xs) → Parting text spot x xs
unfolding placed
parting {text} {spot} {x} {xs} a =
    let t = told (here_ahead a) in
    let s = visit (body_of (lines_from text spot)) spot.at.0 a.onto refl refl in
    let n : stands (next_line (lines_from text spot)) ≡ stands (lines_at text spot.line.next.0) = rw (t.rest, t.here) in
    let e : x ∷ xs ≡ placed (lines_from text spot) (s.own ∷ s.left) ++ stands (lines_at text spot.line.next.0) =
    a.all
    ∙ ap (λ ys. placed (lines_from text spot) ys ++ stands (next_line (lines_from text spot))) s.all
    ∙ ap (λ ys. placed (lines_from text spot) (s.own ∷ s.left) ++ ys) n in
    record {
      before = a.before;
      first = s.own;
      others = s.left;
      whole = sym (parts_here (here_ahead a)) ∙ a.whole ∙ ap (λ ys. a.before ++ ys) s.all;
      onto = rw t.body (rw s.all at a.onto);
      end = s.end;
      reads = rw t.body s.reads;
      is = cc (e);
      rest = cc (e);
    }

module _ {text : List ℕ} {spot : Spot} {x : Stand} {xs : List Stand} (p : Parting text spot x xs) (h : Here text spot.line.place.0 spot.line) where
  pub onward_at : (q : Place) → Onto (body_at text spot.line) q.0 p.others → Ahead text (record { line = spot.line; at = q }) xs
  onward_at q o =
      rw p.rest
      (ahead_here h q (p.before ++ (p.first ∷ [])) p.others (p.whole ∙ sym (append_assoc p.before (p.first ∷ []) p.others)) o)

  pub onward_over : p.others ≡ [] → stands (lines_at text spot.line.next.0) ≡ xs
  unfolding placed
  onward_over e = sym (p.rest ∙ rw e)
