-- Lines that are named but missing: what the search for a line tells of it, and the walk over the statements that name lines.
use Rattle.std.specs.Prelude.{None, Option, Some, ℕ, is_some}
use Rattle.loader.specs.declared.lines.LineSpan.{LineSpan}
use Rattle.words.specs.declared.places.Place.{Place}
use mathlib.Core.Path.{◌≡◌, refl, sym, ◌∙◌, ap}
use mathlib.Core.Bool.{Bool, true, false, not, ◌||◌, false≢true}
use mathlib.Core.List.{List, [], ◌∷◌}
use Prim.Native.Nat.{ℕ}
use Rattle.whole.proofs.Never.{never}
use Rattle.words.specs.declared.symbols.Scanned.{Scanned}
use Rattle.words.specs.declared.places.LineNumber.{LineNumber}
use Rattle.words.proofs.Choices.{by_test}
use Rattle.loader.specs.Lines.{Line, lines_of, number_of, has, located, first_of, from_number, find_line}
use Rattle.grammar.specs.Trees.{Statement, Part}
use Rattle.statements.specs.Statements.{Begun, bad, done, choice, begun_at, good_part, part_of}
use Rattle.statements.specs.Parts.{named_line, head_of, heads, parts_of, statements_of}
use Rattle.statements.specs.bridge.Answers.{begun_answer}
use Rattle.statements.specs.declared.reading.StatementRead.{StatementRead}
use Rattle.statements.proofs.Parts.{unrolled}
use Rattle.reader.specs.Lines.{holds, judgement}
use Rattle.reader.specs.bridge.Walking.{follow_of, start_of, Onto, StartsAs}
use Rattle.reader.proofs.Judging.{held}
use Rattle.reader.proofs.Walks.{Itself}
use Rattle.reader.proofs.Visits.{line_onto, Visit, visit}
use Rattle.checker.specs.Check.{present, missing, any_missing}
use Rattle.checker.specs.bridge.Answers.{names_of}

-- ---- the search for a line

found_located : (n : ℕ) (l : Line) (x : Option (LineNumber × ℕ)) → has n x ≡ true → is_some (located l x) ≡ true
found_located n l (Some (m, count)) e = refl
found_located n l None e = absurd (false≢true e)

-- it finds a line just where one has the number
pub found_present : (n : ℕ) (ls : List Line) → is_some (first_of (from_number n ls)) ≡ present n ls
unfolding from_number present
found_present n [] = refl
found_present n (l ∷ ls) =
    by_test (has n (number_of l.bytes)) (λ e. rw e (found_located n l (number_of l.bytes) e)) (λ e. rw e (found_present n ls))

module _ (text : List ℕ) {names : Option LineNumber} {n : LineNumber} (is : names ≡ Some n) where
  pub missing_found : {found : Option LineSpan} → found ≡ find_line text n → not (is_some found) ≡ missing (lines_of text) names
  missing_found e = rw (is, e, found_present n.0 (lines_of text))

-- ---- what a statement names by itself

names_itself : (b : Begun) (x : Statement) → Itself b x → (b ≡ bad → ⊥) → names_of (begun_answer b) ≡ named_line x
names_itself bad x h n = absurd (n refl)
names_itself (done y t) x h n = sym (ap named_line h)
names_itself (choice c t) x h n = sym h.1.1

read_begins : (line : List ℕ) (p : ℕ) {own : Part} {end : Scanned} → part_of line true p ≡ good_part own end → begun_at line true p ≡ bad → ⊥
read_begins line p e b =
    let f = sym (unrolled line true p) ∙ e in let g = rw b at f in never (cc)

pub named_there : {line : List ℕ} {p : ℕ} {next : Option Place} {xs : List Part} {read : Option StatementRead} {named : Option LineNumber} (there : Visit line p next xs)
    → read ≡ begun_answer (begun_at line true p) → named ≡ names_of read → named ≡ named_line (head_of there.own)
named_there {line} {p} there is names =
    names ∙ ap names_of is ∙ names_itself (begun_at line true p) (head_of there.own) there.itself (read_begins line p there.reads)

-- ---- the walk over a line

module _ (all : List Line) where
  -- from a place on the line reads, and whether a line named there is missing is this
  pub record Noticed (line : List ℕ) (p : ℕ) (v : Bool) : Type 0 where
    parts : List Part
    onto : Onto line p parts
    comes : any_missing all (heads parts) ≡ v

  pub line_noticed : (line : List ℕ) (part : Part) → judgement line ≡ holds part → Noticed line 0 (any_missing all (statements_of part))
  line_noticed line part e = record { parts = parts_of part; onto = line_onto line part (held line e); comes = refl }

  -- from the next statement on
  abbrev pub Later : List ℕ → Option Place → Bool → Type 0
  Later line (Some q) v = Noticed line q.0 v
  Later line None v = false ≡ v

  later : (line : List ℕ) (f : Option Place) (xs : List Part) {v : Bool} → StartsAs line f xs → any_missing all (heads xs) ≡ v → Later line f v
  unfolding heads any_missing
  later line (Some q) xs o e = record { parts = xs; onto = o; comes = e }
  later line None xs o e = rw o at e

  module _ (line : List ℕ) (p : ℕ) {v : Bool} (here : Noticed line p v)
      {read : Option StatementRead} {named : Option LineNumber} {next : Option Place} (is : read ≡ begun_answer (begun_at line true p)) (names : named ≡ names_of read)
      (f : next ≡ start_of (follow_of read)) where
    abbrev there : Visit line p next here.parts
    there = visit line p here.onto is f

    splits : missing all named || any_missing all (heads there.left) ≡ v
    unfolding heads any_missing
    splits =
        ap (λ n. missing all n || any_missing all (heads there.left)) (named_there there is names)
        ∙ ap (λ xs. any_missing all (heads xs)) (sym there.all)
        ∙ here.comes

    -- a statement names a missing line,
    pub noticed_here : missing all named ≡ true → true ≡ v
    noticed_here e = rw e at splits

    -- or else the rest decides
    pub noticed_later : missing all named ≡ false → Later line next v
    noticed_later e = later line next there.left there.on (rw e at splits)
