-- A run ends in 14 exactly when a statement that it begins asks for too much.
use mathlib.Core.Path.{◌≡◌, refl, sym, ap, ◌∙◌}
use mathlib.Core.List.{List, [], ◌∷◌}
use mathlib.Core.Logic.{◌↔◌}
use Prim.Native.Nat.{ℕ, zero, suc}
use borrow.Author.Tests.{le-ltb}
use Rattle.whole.specs.declared.errors.Error.TheVariants.{OutOfStringSpace}
use Rattle.words.specs.declared.places.LineNumber.{LineNumber}
use Rattle.loader.specs.Lines.{Line, lines_of, after_number, next_line}
use Rattle.grammar.specs.Trees.{Statement, Part}
use Rattle.reader.specs.Lines.{Judgement, unreadable, too_deep, holds, judgement}
use Rattle.statements.specs.Parts.{Rest, nothing, part, head_of, tail_of, place_of}
use Rattle.variables.specs.Variables.{string_bytes}
use Rattle.machine.specs.Items.{fresh}
use Rattle.machine.specs.Machine.{Position, Machine, Lent, most_records, with_step}
use Rattle.variables.specs.Strings.{longest_space}
use Rattle.turns.specs.Steps.{Next, goes_on, enters, ends, stops, fails, do_statement}
use Rattle.runner.specs.Run.{Ran, ends_with, line_number_of, judged_line, enter, Standing, finished, at, by_entered, entering, onward, following, turn, running, run_of}
use Rattle.runner.specs.declared.running.Outcome.TheVariants.{Failed}
use Rattle.promises.specs.Unfinished.{LiveIsExactFacts}
use Rattle.promises.specs.StringSpace as asks
use Rattle.promises.specs.StringSpace.{Ask, Exceeds, StatementAsks, Begins, AsksTooMuch}
use Rattle.whole.proofs.Never.{never}
use Rattle.promises.proofs.Limits.Keeping.{Keeps}
use Rattle.promises.proofs.Limits.Bounds.{Stands, entering_stands, turn_stands, RunView, long, tall, unloaded, runs, run_view}
use Rattle.promises.proofs.Fourteen.Statements.{told, StatementOver, statement_tells, StatementFails, statement_fails}

-- ---- a run that has not come to 14 yet

abbrev Unfailed : Standing → Type 0
Unfailed (finished r) = (l : LineNumber) → r.ending ≡ Failed OutOfStringSpace l → ⊥
Unfailed (at m lines p) = Unit {0}

-- a line is judged 2 or 16
judged_unfailed : (g : Judgement) (m : Machine) (lines : List Line) → Unfailed (by_entered (judged_line g) m lines)
judged_unfailed unreadable m lines = λ l e. never (cc)
judged_unfailed too_deep m lines = λ l e. never (cc)
judged_unfailed (holds p) m lines = tt

entering_unfailed : (m : Machine) (lines : List Line) → Unfailed (entering m lines)
unfolding enter
entering_unfailed m [] = λ l e. never (cc)
entering_unfailed m (l ∷ ls) = judged_unfailed (judgement (after_number l)) m (l ∷ ls)

onward_unfailed : (m : Machine) (lines : List Line) (rest : Rest) → Unfailed (onward m lines rest)
onward_unfailed m lines nothing = entering_unfailed m (next_line lines)
onward_unfailed m lines (part p) = tt

-- ---- the space stays as large

pub space_kept : (space : ℕ) → Keeps (λ m. m.space ≡ space)
space_kept space = record {
  changes = record {
    numbers = λ m name w full p. p;
    records = λ m rs few p. p;
    prints = λ m bytes h p. p;
    takes = λ m left h p. p;
    feeds = λ m l p. p;
  };
  notes = λ m room h p. p;
  strings = λ m name f b room e full p. p;
}

pub begun_space : (program : List ℕ) (space n : ℕ) (s : Standing) (ls : List Line) (q : ℕ) (x : Statement) (k : Machine) → Begins program n s ls q x k
    → Stands (λ m. m.space ≡ space) s → k.space ≡ space
begun_space program space (suc n) (at m lines p) ls q x k asks.first h = h
begun_space program space (suc n) (at m lines p) ls q x k (asks.later d) h =
    begun_space program space n (turn program m lines p) ls q x k d (turn_stands (λ m. m.space ≡ space) (space_kept space) program m lines p h)
begun_space program space zero s ls q x k x4 h = elim x4 [ ]
begun_space program space (suc n) (finished _) ls q x k x9 h = elim x9 [ ]

over_stays : (n : ℕ) (program : List ℕ) (r : Ran) → running n program (finished r) ≡ r
unfolding running
over_stays zero program r = refl
over_stays (suc n) program r = refl

module _ (exact : LiveIsExactFacts) (program : List ℕ) (space : ℕ) where
  -- ---- from 14 to the statement

  record Asked (n : ℕ) (s : Standing) (l : LineNumber) : Type 0 where
    from : List Line
    numbered : line_number_of from ≡ l
    place : ℕ
    statement : Statement
    machine : Machine
    begins : Begins program n s from place statement machine
    asking : Machine
    ask : Ask
    asks : StatementAsks from place statement machine asking ask
    exceeds : Exceeds space (string_bytes asking.variables.strings) ask

  asked_later : {n : ℕ} {m : Machine} {lines : List Line} {p : Part} {l : LineNumber} → Asked n (turn program m lines p) l → Asked (suc n) (at m lines p) l
  asked_later a =
      record {
        from = a.from;
        numbered = a.numbered;
        place = a.place;
        statement = a.statement;
        machine = a.machine;
        begins = asks.later a.begins;
        asking = a.asking;
        ask = a.ask;
        asks = a.asks;
        exceeds = a.exceeds;
      }

  asked_now : (n : ℕ) (m : Machine) (lines : List Line) (p : Part) {l : LineNumber} → m.space ≡ space → line_number_of lines ≡ l
      → StatementOver exact lines (place_of p) (head_of p) (with_step m) → Asked (suc n) (at m lines p) l
  asked_now n m lines p h e o =
      record {
        from = lines;
        numbered = e;
        place = place_of p;
        statement = head_of p;
        machine = with_step m;
        begins = asks.first;
        asking = o.asking;
        ask = o.ask;
        asks = o.asks;
        exceeds = rw h at o.exceeds;
      }

  module _ (n : ℕ) (m : Machine) (lines : List Line) (p : Part) (l : LineNumber) (h : m.space ≡ space)
      (rest : Unfailed (turn program m lines p) → (running n program (turn program m lines p)).ending ≡ Failed OutOfStringSpace l
      → Asked n (turn program m lines p) l) where
    abbrev after : Position
    after = record { lines = lines; rest = tail_of p }

    by_next : (x : Next) → do_statement program (place_of p) (head_of p) (with_step m) after ≡ x
        → (running n program (following (line_number_of lines) x)).ending ≡ Failed OutOfStringSpace l → Asked (suc n) (at m lines p) l
    by_next (goes_on o q) d e = asked_later (rest (rw d (onward_unfailed o q.lines q.rest)) (rw d e))
    by_next (enters o ls) d e = asked_later (rest (rw d (entering_unfailed o ls)) (rw d e))
    by_next (ends o) d e = let f = sym (ap (λ (r : Ran). r.ending) (over_stays n program _)) ∙ e in never (cc)
    by_next (stops o) d e = let f = sym (ap (λ (r : Ran). r.ending) (over_stays n program _)) ∙ e in never (cc)
    by_next (fails x o) d e =
        let f = sym (ap (λ (r : Ran). r.ending) (over_stays n program (ends_with (Failed x (line_number_of lines)) o))) ∙ e in
        let g : x ≡ OutOfStringSpace = cc in
        asked_now n m lines p h (cc)
        (told (do_statement program (place_of p) (head_of p) (with_step m) after) o (statement_tells exact program (place_of p) (head_of p) (with_step m) after)
        (d ∙ ap (λ y. fails y o) g))

  running_asked : (n : ℕ) (s : Standing) (l : LineNumber) → Stands (λ m. m.space ≡ space) s → Unfailed s
      → (running n program s).ending ≡ Failed OutOfStringSpace l → Asked n s l
  unfolding running
  running_asked zero (finished r) l h u e = absurd (u l e)
  running_asked zero (at m lines p) l h u e = never (cc)
  running_asked (suc n) (finished r) l h u e = absurd (u l e)
  running_asked (suc n) (at m lines p) l h u e =
      by_next n m lines p l h
      (λ u' e'. running_asked n (turn program m lines p) l (turn_stands (λ m. m.space ≡ space) (space_kept space) program m lines p h) u' e')
      (do_statement program (place_of p) (head_of p) (with_step m) (record { lines = lines; rest = tail_of p })) refl e

  -- ---- from the statement to 14

  running_fails : (n : ℕ) (s : Standing) (ls : List Line) (q : ℕ) (x : Statement) (m : Machine) → Begins program n s ls q x m
      → ((rest : Rest) → StatementFails exact program q x m (record { lines = ls; rest = rest }))
      → (running n program s).ending ≡ Failed OutOfStringSpace (line_number_of ls)
  unfolding running
  running_fails (suc n) (at m lines p) ls q x k asks.first f =
      let y = f (tail_of p) in
      ap (λ z. (running n program (following (line_number_of lines) z)).ending) y.1
      ∙ ap (λ (r : Ran). r.ending) (over_stays n program (ends_with (Failed OutOfStringSpace (line_number_of lines)) y.0))
  running_fails (suc n) (at m lines p) ls q x k (asks.later d) f = running_fails n (turn program m lines p) ls q x k d f
  running_fails zero s ls q x k x4 f = elim x4 [ ]
  running_fails (suc n) (finished _) ls q x k x9 f = elim x9 [ ]

-- ---- a whole run

module _ (exact : LiveIsExactFacts) (text input : List ℕ) (lent : Lent) (budget : ℕ) where
  abbrev start : Standing
  start = entering (fresh text input lent) (lines_of text)

  start_space : Stands (λ m. m.space ≡ lent.space) start
  start_space = entering_stands (λ m. m.space ≡ lent.space) (fresh text input lent) (lines_of text) refl

  asked_view : RunView text input lent budget → (l : LineNumber) → (run_of text input lent budget).ending ≡ Failed OutOfStringSpace l
      → AsksTooMuch text input lent budget l
  asked_view (long h e) l f = let g = rw e at f in never (cc)
  asked_view (tall h k e) l f = let g = rw e at f in never (cc)
  asked_view (unloaded r p h s k e) l f = let g = rw e at f in never (cc)
  asked_view (runs h s k e) l f =
      let a = running_asked exact text lent.space budget start l start_space (entering_unfailed (fresh text input lent) (lines_of text)) (rw e at f) in
      record {
        small = h;
        few = s;
        loads = k;
        from = a.from;
        numbered = a.numbered;
        place = a.place;
        statement = a.statement;
        machine = a.machine;
        begins = a.begins;
        asking = a.asking;
        ask = a.ask;
        asks = a.asks;
        exceeds = a.exceeds;
      }

  asked_fails : (l : LineNumber) → AsksTooMuch text input lent budget l → (run_of text input lent budget).ending ≡ Failed OutOfStringSpace l
  unfolding run_of
  asked_fails l a =
      let same = begun_space text lent.space budget start a.from a.place a.statement a.machine a.begins start_space in
      rw (le-ltb longest_space lent.space a.small, le-ltb most_records lent.records a.few, a.loads, ← a.numbered)
      (running_fails exact text lent.space budget start a.from a.place a.statement a.machine a.begins
      (λ rest. statement_fails exact text a.place a.statement a.machine (record { lines = a.from; rest = rest }) a.asking a.ask a.asks (rw same a.exceeds)))

  pub fourteen_exactly : (l : LineNumber)
      → ((run_of text input lent budget).ending ≡ Failed OutOfStringSpace l) ↔ AsksTooMuch text input lent budget l
  fourteen_exactly l = (asked_view (run_view text input lent budget) l, asked_fails l)
