-- Positions of a run: the lines from a place on, the line that the code finds there, and the parts that read in it.
use Rattle.std.specs.Prelude.{None, Ok, Option, Some, ℕ}
use mathlib.Core.Path.{◌≡◌, refl, sym, ap, ◌∙◌}
use mathlib.Core.Logic.{⊎_elim}
use mathlib.Core.Bool.{Bool, true}
use mathlib.Core.List.{List, [], ◌∷◌, ◌++◌, append_assoc, cons-ne-nil}
use Prim.Native.Nat.{ℕ, ◌-◌, ◌≤◌, ◌<◌}
use native.Mathlib.Omega.{arith}
use lib.ListN.{length, take, drop, length-drop}
use Rattle.whole.specs.Digits.{leading_digits, leading_value}
use Rattle.whole.proofs.Numbers.{less}
use Rattle.whole.proofs.Never.{never}
use Rattle.words.specs.Places.{place, line_number, largest_line_number, longest_line}
use Rattle.words.specs.declared.places.LineNumber.{LineNumber}
use Rattle.loader.specs.Lines.{Line, lines_of, number_of, located, first_of, line_at, has, from_number, find_line}
use Rattle.loader.specs.Loading.{load_of}
use Rattle.loader.specs.declared.lines.LineSpan.{LineSpan}
use Rattle.loader.proofs.Extents.{cut, walked}
use Rattle.loader.proofs.Found.{from_suffix, from_has, from_at}
use Rattle.loader.proofs.Rising.{Rising, recipe, rising_suffix}
use Rattle.loader.proofs.Spans.{Spanned, spanned_as, none_left}
use Rattle.words.specs.declared.symbols.Scanned.{Scanned}
use Rattle.grammar.specs.Trees.{Statement, Part, last, more}
use Rattle.statements.specs.Parts.{place_of}
use Rattle.statements.specs.Statements.{good_part, part_of}
use Rattle.statements.proofs.Views.{Final, plain, thens, elses, more_view, final_view}
use Rattle.machine.specs.Repeats.{start_of}
use Rattle.machine.specs.bridge.Holding.{lines_at, body_of, Begins}

-- ---- one line after another

-- the first line from a place on, and those after it
pub record AfterLine (text : List ℕ) (p : ℕ) (l : Line) (ls : List Line) : Type 0 where
  pub start : l.start ≡ p
  pub rest : lines_at text l.next ≡ ls
  pub onward : p < l.next
  pub inside : l.next ≤ length text

pub after_line : (text : List ℕ) (p : ℕ) {l : Line} {ls : List Line} → lines_at text p ≡ l ∷ ls → AfterLine text p l ls
after_line text p q = let k = cut text p q in record { start = k.start; rest = sym k.rest; onward = k.onward; inside = k.inside }

-- none is left just where the text is over
pub over_text : (text : List ℕ) (p : ℕ) → lines_at text p ≡ [] → length text ≤ p
over_text text p e =
    ⊎_elim (λ h. absurd (cons-ne-nil _ _ (sym (walked text p h refl).lines ∙ e))) (λ h. h) (less p (length text))

-- the lines from a place on are the last of the text's
pub record Reaches (text : List ℕ) (p : ℕ) : Type 0 where
  pub before : List Line
  pub all : lines_of text ≡ before ++ lines_at text p

-- as all of them are,
pub reaches_first : (text : List ℕ) → Reaches text 0
reaches_first text = record { before = []; all = refl }

-- those from where a line begins,
pub reaches_line : {text : List ℕ} {p : ℕ} → Begins text p → Reaches text p
reaches_line b = record { before = b.before; all = b.all }

-- and those after it
pub reaches_next : {text : List ℕ} {p : ℕ} → Begins text p → {l : Line} {ls : List Line} → lines_at text p ≡ l ∷ ls → Reaches text l.next
reaches_next {text} {p} b {l} {ls} q =
    record { before = b.before ++ (l ∷ []); all = b.all ∙ rw (q, (after_line text p q).rest, append_assoc) }

-- where there are some, one begins
pub begins_here : {text : List ℕ} {p : ℕ} → Reaches text p → {l : Line} {ls : List Line} → lines_at text p ≡ l ∷ ls → Begins text p
begins_here w {l} {ls} q = record { before = w.before; first = l; others = ls; here = q; all = w.all }

pub begins_next : {text : List ℕ} {p : ℕ} → Begins text p → {l : Line} {ls : List Line} → lines_at text p ≡ l ∷ ls
    → {m : Line} {ms : List Line} → ls ≡ m ∷ ms → Begins text l.next
begins_next {text} {p} b q e = begins_here (reaches_next b q) ((after_line text p q).rest ∙ e)

-- where a line begins is where it was looked for
pub begins_at : {text : List ℕ} {p : ℕ} → Begins text p → start_of (lines_at text p) ≡ p
begins_at {text} {p} b = ap start_of b.here ∙ (after_line text p b.here).start

-- ---- a part that reads from a place of a line stands there

final_place : {line : List ℕ} {first : Bool} {at q : ℕ} {x : Statement} {end : Scanned} → Final line first at q x end → q ≡ at
final_place (plain f) = f.at
final_place (thens f) = f.at
final_place (elses f) = f.at

pub part_place : (line : List ℕ) (first : Bool) (at : ℕ) (p : Part) {end : Scanned} → part_of line first at ≡ good_part p end → place_of p ≡ at
part_place line first at (last q x) e = final_place (final_view line first at e)
part_place line first at (more q x rest) e = (more_view line first at e).at

-- ---- the line that is found at a place

-- a span is that of the line at a place
pub record Told (text : List ℕ) (p : ℕ) (span : LineSpan) : Type 0 where
  pub line : Line
  pub others : List Line
  pub here : lines_at text p ≡ line ∷ others
  pub rest : lines_at text span.next.0 ≡ others
  pub starts : span.place ≡ place p
  pub next : span.next ≡ place line.next
  pub number : span.number ≡ line_number (leading_value line.bytes)
  pub small : leading_value line.bytes ≤ largest_line_number
  pub body : take (span.end.0 - span.body.0) (drop span.body.0 text) ≡ body_of (lines_at text p)
  pub short : length (body_of (lines_at text p)) ≤ longest_line
  pub low : span.body.0 ≤ span.end.0
  pub high : span.end.0 ≤ length text
  pub onward : p < span.next.0
  pub inside : span.next.0 ≤ length text

told_by : {text : List ℕ} {p : ℕ} {span : LineSpan} → Spanned text p span → Told text p span
told_by {text} {p} {span} s =
    record {
      line = s.line;
      others = lines_at text span.next.0;
      here = s.lines;
      rest = refl;
      starts = s.starts;
      next = s.next;
      number = s.number;
      small = s.sound.small;
      body = rw s.lines s.bytes;
      short = rw (s.lines, length-drop (length (leading_digits s.line.bytes)) s.line.bytes) (omega (arith, s.sound.short));
      low = s.low;
      high = s.high;
      onward = s.onward;
      inside = s.inside;
    }

-- the last of its lines rise
pub reaches_rising : {text : List ℕ} {p : ℕ} → Reaches text p → load_of text ≡ Ok tt → Rising 0 (lines_at text p)
reaches_rising {text} w fine = rising_suffix 0 (w.before, sym w.all) (recipe text fine).rising

-- what is found where one begins is its span
pub told_as : {text : List ℕ} {p : ℕ} → Begins text p → load_of text ≡ Ok tt → {span : LineSpan} → line_at text (place p) ≡ Some span
    → Told text p span
told_as {text} {p} b fine e = told_by (spanned_as text p (reaches_rising (reaches_line b) fine) e)

-- where one is found one begins,
some_first : (text : List ℕ) (p : ℕ) (ls : List Line) → lines_at text p ≡ ls → Reaches text p → {span : LineSpan} → first_of ls ≡ Some span
    → Begins text p
some_first text p [] q w e = never (cc)
some_first text p (l ∷ ls) q w e = begins_here w q

pub reached_some : {text : List ℕ} {p : ℕ} → Reaches text p → {span : LineSpan} → line_at text (place p) ≡ Some span → Begins text p
reached_some {text} {p} w e = some_first text p (lines_at text p) refl w e

-- and where none is, none is left
pub reached_none : {text : List ℕ} {p : ℕ} → Reaches text p → load_of text ≡ Ok tt → line_at text (place p) ≡ None → lines_at text p ≡ []
reached_none {text} {p} w fine e = none_left (lines_at text p) (reaches_rising w fine) e

-- so one is found where one begins
pub none_here : {text : List ℕ} {p : ℕ} → Begins text p → load_of text ≡ Ok tt → {P : Type 0} → line_at text (place p) ≡ None → P
none_here b fine e = absurd (cons-ne-nil _ _ (sym b.here ∙ reached_none (reaches_line b) fine e))

-- ---- the line with a number

-- a span found by its line's number: the lines from it on are those that the search gives
pub record FoundBegins (text : List ℕ) (n : LineNumber) (span : LineSpan) : Type 0 where
  pub begins : Begins text span.place.0
  pub lines : lines_at text span.place.0 ≡ from_number n.0 (lines_of text)

located_at : (l : Line) (x : Option (LineNumber × ℕ)) {span : LineSpan} → located l x ≡ Some span → span.place.0 ≡ l.start
located_at l (Some (m, count)) {span} e =
    let f : place l.start ≡ span.place = cc in sym (ap (λ x. x.0) f)
located_at l None e = never (cc)

located_some : (n : ℕ) (l : Line) (x : Option (LineNumber × ℕ)) → has n x ≡ true → located l x ≡ None → ⊥
located_some n l (Some (m, count)) h e = never (cc)
located_some n l None h e = never (cc)

module _ (text : List ℕ) (n : LineNumber) where
  found_by : (ls : List Line) → from_number n.0 (lines_of text) ≡ ls → {span : LineSpan} → first_of ls ≡ Some span → FoundBegins text n span
  found_by [] q e = never (cc)
  found_by (l ∷ ls) q {span} e =
      let s = from_suffix n.0 (lines_of text) in
      let a = from_at text n.0 q in
      rw (located_at l (number_of l.bytes) e)
      (record {
        begins = record { before = s.0; first = l; others = ls; here = sym a ∙ q; all = sym s.1 ∙ ap (λ x. s.0 ++ x) a };
        lines = sym a;
      })

  pub found_begins : {span : LineSpan} → find_line text n ≡ Some span → FoundBegins text n span
  found_begins e = found_by (from_number n.0 (lines_of text)) refl e

  none_by : (ls : List Line) → from_number n.0 (lines_of text) ≡ ls → first_of ls ≡ None → from_number n.0 (lines_of text) ≡ []
  none_by [] q e = q
  none_by (l ∷ ls) q e = absurd (located_some n.0 l (number_of l.bytes) (from_has n.0 (lines_of text) q) e)

  -- where none is found the search gives none
  pub found_none : find_line text n ≡ None → from_number n.0 (lines_of text) ≡ []
  found_none e = none_by (from_number n.0 (lines_of text)) refl e
