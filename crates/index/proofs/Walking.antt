-- The pairs of a line, statement by statement.
use Rattle.std.specs.Prelude.{None, Option, Some, ℕ}
use Rattle.words.specs.declared.places.LineNumber.{LineNumber}
use Rattle.words.specs.declared.places.Place.{Place}
use mathlib.Core.Path.{◌≡◌, refl, sym, ap, ◌∙◌}
use mathlib.Core.Bool.{true}
use mathlib.Core.List.{List, [], ◌∷◌, ◌++◌, append-nil}
use Prim.Native.Nat.{ℕ, ◌≤◌, ◌<◌}
use native.Mathlib.Omega.{arith}
use lib.ListN.{length, length-append}
use Rattle.words.proofs.Choices.{by_test}
use Rattle.grammar.specs.Trees.{Statement, Part}
use Rattle.statements.specs.Statements.{begun_at}
use Rattle.statements.specs.Parts.{named_line, heads, parts_of, statements_of}
use Rattle.statements.specs.bridge.Answers.{begun_answer}
use Rattle.statements.specs.declared.reading.StatementRead.{StatementRead}
use Rattle.reader.specs.Lines.{holds, judgement}
use Rattle.reader.specs.bridge.Walking.{follow_of, start_of, Onto, StartsAs}
use Rattle.reader.proofs.Judging.{held}
use Rattle.reader.proofs.Visits.{line_onto, Visit, visit}
use Rattle.checker.specs.bridge.Answers.{names_of}
use Rattle.checker.proofs.Missing.{named_there}
use Rattle.index.specs.Pairs.{Pair, is_in, with_named, named_by, pairs_with}
use Rattle.index.specs.Index.{most_pairs}
use Rattle.index.specs.bridge.Noting.{Held, NotedAs}
use Rattle.index.proofs.Noting.{pairs_with_long}

-- ---- those that are named only become more

with_grows : (seen : List ℕ) (n : Option LineNumber) → length seen ≤ length (with_named seen n)
with_grows seen None = omega arith
with_grows seen (Some l) =
    by_test (is_in l.0 seen) (λ e. rw e (omega arith)) (λ e. rw e (omega (arith, length-append seen (l.0 ∷ []))))

named_grows : (xs : List Statement) (seen : List ℕ) → length seen ≤ length (named_by seen xs)
unfolding named_by
named_grows [] seen = omega arith
named_grows (x ∷ xs) seen = omega (arith, with_grows seen (named_line x), named_grows xs (with_named seen (named_line x)))

-- ---- what a count or a refusal says

pub told_count : {r : Option ℕ} {k : ℕ} (pairs : List ℕ) (ps : List Pair) → r ≡ Some k → NotedAs r pairs ps → Held pairs k ps
told_count pairs ps e h = rw e at h

pub told_full : {r : Option ℕ} (pairs : List ℕ) (ps : List Pair) → r ≡ None → NotedAs r pairs ps → most_pairs < length ps
told_full pairs ps e h = rw e at h

-- ---- the walk

-- from a place on the line reads, and what is named there comes, with what was named before, to these
pub record Noting (line : List ℕ) (own : ℕ) (pairs : List ℕ) (p count from : ℕ) (done : List Pair) (goal : List ℕ) : Type 0 where
  pub parts : List Part
  pub onto : Onto line p parts
  pub seen : List ℕ
  pub starts : from ≡ length done
  pub keeps : Held pairs count (done ++ pairs_with own seen)
  pub comes : named_by seen (heads parts) ≡ goal

pub noting_first : (line : List ℕ) (own : ℕ) {pairs : List ℕ} {from : ℕ} (done : List Pair) (part : Part) → judgement line ≡ holds part → Held pairs from done
    → Noting line own pairs 0 from from done (named_by [] (statements_of part))
unfolding pairs_with
noting_first line own done part e h =
    record {
      parts = parts_of part;
      onto = line_onto line part (held line e);
      seen = [];
      starts = h.counts;
      keeps = rw (append-nil done) h;
      comes = refl;
    }

-- from the next statement on; past the last all are noted
abbrev pub Onward : List ℕ → ℕ → List ℕ → Option Place → ℕ → ℕ → List Pair → List ℕ → Type 0
Onward line own pairs (Some q) count from done goal = Noting line own pairs q.0 count from done goal
Onward line own pairs None count from done goal = Held pairs count (done ++ pairs_with own goal)

onward_by : (line : List ℕ) (own : ℕ) (pairs : List ℕ) (f : Option Place) (count from : ℕ) (done : List Pair) (seen : List ℕ) (xs : List Part) {goal : List ℕ}
    → StartsAs line f xs → from ≡ length done → Held pairs count (done ++ pairs_with own seen) → named_by seen (heads xs) ≡ goal
    → Onward line own pairs f count from done goal
unfolding heads named_by
onward_by line own pairs (Some q) count from done seen xs o s h e = record { parts = xs; onto = o; seen = seen; starts = s; keeps = h; comes = e }
onward_by line own pairs None count from done seen xs o s h e =
    let n : seen ≡ _ = (rw o at e) in rw (← n) h

module _ (line : List ℕ) (own : ℕ) {pairs : List ℕ} {p count from : ℕ} {done : List Pair} {goal : List ℕ} (here : Noting line own pairs p count from done goal)
    {read : Option StatementRead} {named : Option LineNumber} {next : Option Place} (is : read ≡ begun_answer (begun_at line true p)) (names : named ≡ names_of read)
    (f : next ≡ start_of (follow_of read)) where
  abbrev there : Visit line p next here.parts
  there = visit line p here.onto is f

  left_comes : named_by (with_named here.seen named) (heads there.left) ≡ goal
  unfolding heads named_by
  left_comes =
      ap (λ n. named_by (with_named here.seen n) (heads there.left)) (named_there there is names)
      ∙ ap (λ xs. named_by here.seen (heads xs)) (sym there.all)
      ∙ here.comes

  -- a statement that is noted leaves the others
  pub noting_on : {after : List ℕ} {more : ℕ} → Held after more (done ++ pairs_with own (with_named here.seen named)) → Onward line own after next more from done goal
  noting_on {after} {more} h =
      onward_by line own after next more from done (with_named here.seen named) there.left there.on here.starts h left_comes

  -- one too many is one too many of all
  pub noting_full : most_pairs < length (done ++ pairs_with own (with_named here.seen named)) → most_pairs < length (done ++ pairs_with own goal)
  noting_full h =
      let w = with_named here.seen named in
      let g : length w ≤ length goal = rw (← left_comes) (named_grows (heads there.left) w) in
      omega (arith, g, length-append done (pairs_with own w), length-append done (pairs_with own goal), pairs_with_long own w, pairs_with_long own goal)
