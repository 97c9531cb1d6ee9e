-- A run is out of steps exactly when its budget is spent and another statement stands.
use mathlib.Core.Path.{◌≡◌, refl, sym, ap, ◌∙◌}
use mathlib.Core.Bool.{Bool, true, false, false≢true}
use mathlib.Core.List.{List}
use Prim.Native.Nat.{ℕ, zero, suc, ◌+◌}
use native.Mathlib.Omega.{arith}
use borrow.Author.Tests.{le-ltb}
use Rattle.words.specs.declared.places.LineNumber.{LineNumber}
use Rattle.loader.specs.Lines.{Line, lines_of, next_line}
use Rattle.grammar.specs.Trees.{Part}
use Rattle.variables.specs.Strings.{longest_space}
use Rattle.machine.specs.Items.{fresh}
use Rattle.machine.specs.Machine.{Machine, Lent, most_records, with_step}
use Rattle.statements.specs.Parts.{Rest, nothing, part, head_of, tail_of, place_of}
use Rattle.turns.specs.Steps.{Next, goes_on, enters, ends, stops, fails, do_statement}
use Rattle.runner.specs.Run.{Ran, ends_with, line_number_of, Entered, over, faulty, opened, enter, Standing, finished, at, by_entered, entering, onward, following, turn, running, run_of}
use Rattle.runner.specs.declared.running.Outcome.{Outcome}
use Rattle.runner.specs.declared.running.Outcome.TheVariants.{Ended, Stopped, Out, Failed, Refused}
use Rattle.runner.specs.declared.running.Ran as code
use Rattle.promises.specs.Calls.{RunCall, text_of, input_of, lent_of, budget_of}
use Rattle.promises.specs.Passing.{stands_after}
use Rattle.promises.specs.OutOfSteps.{AnotherStands, OutOfSteps, OutOfStepsExactly}
use Rattle.promises.proofs.Limits.Bounds.{Stands, entering_stands, turn_stands, RunView, long, tall, unloaded, runs, run_view, steps_kept}
use Rattle.whole.proofs.Never.{never}

-- ---- no statement and no line ends a run so

abbrev is_out : Outcome → Bool
is_out Ended = false
is_out (Stopped l) = false
is_out (Out l) = true
is_out (Failed e l) = false
is_out (Refused r p) = false

abbrev NotOut : Standing → Type 0
NotOut (finished r) = is_out r.ending ≡ false
NotOut (at m lines p) = Unit {0}

entered_not_out : (e : Entered) (m : Machine) (lines : List Line) → NotOut (by_entered e m lines)
entered_not_out over m lines = refl
entered_not_out (faulty e) m lines = refl
entered_not_out (opened p) m lines = tt

entering_not_out : (m : Machine) (lines : List Line) → NotOut (entering m lines)
entering_not_out m lines = entered_not_out (enter lines) m lines

onward_not_out : (m : Machine) (lines : List Line) (rest : Rest) → NotOut (onward m lines rest)
onward_not_out m lines nothing = entering_not_out m (next_line lines)
onward_not_out m lines (part p) = tt

following_not_out : (l : LineNumber) (n : Next) → NotOut (following l n)
following_not_out l (goes_on m p) = onward_not_out m p.lines p.rest
following_not_out l (enters m lines) = entering_not_out m lines
following_not_out l (ends m) = refl
following_not_out l (stops m) = refl
following_not_out l (fails e m) = refl

out_no_end : {o : Outcome} (l : LineNumber) → is_out o ≡ false → o ≡ Out l → ⊥
out_no_end l h e = let f = ap is_out e in false≢true (sym h ∙ f)

-- ---- from 'out' to the statement that stands, and back

record StandsAt (n : ℕ) (program : List ℕ) (s : Standing) (l : LineNumber) : Type 0 where
  machine : Machine
  lines : List Line
  part : Part
  stands : stands_after n program s ≡ at machine lines part
  numbered : line_number_of lines ≡ l

running_stands : (n : ℕ) (program : List ℕ) (s : Standing) (l : LineNumber) → NotOut s → (running n program s).ending ≡ Out l → StandsAt n program s l
unfolding running stands_after
running_stands zero program (finished r) l h e = absurd (out_no_end l h e)
running_stands zero program (at m lines p) l h e = record { machine = m; lines = lines; part = p; stands = refl; numbered = cc }
running_stands (suc n) program (finished r) l h e = absurd (out_no_end l h e)
running_stands (suc n) program (at m lines p) l h e =
    let y = running_stands n program (turn program m lines p) l
    (following_not_out (line_number_of lines) (do_statement program (place_of p) (head_of p) (with_step m) (record { lines = lines; rest = tail_of p }))) e in
    record { machine = y.machine; lines = y.lines; part = y.part; stands = y.stands; numbered = y.numbered }

module _ (program : List ℕ) (m : Machine) (lines : List Line) (p : Part) where
  stands_out : (n : ℕ) (s : Standing) → stands_after n program s ≡ at m lines p → running n program s ≡ ends_with (Out (line_number_of lines)) m
  unfolding running stands_after
  stands_out zero s e = rw e
  stands_out (suc n) (finished r) e = never (cc)
  stands_out (suc n) (at o ls q) e = stands_out n (turn program o ls q) e

  -- each statement counted one step
  stands_steps : (n : ℕ) (s : Standing) (k : ℕ) → Stands (λ o. o.steps ≡ k) s → stands_after n program s ≡ at m lines p → m.steps ≡ k + n
  unfolding stands_after
  stands_steps zero s k h e = let f : m.steps ≡ k = rw e at h in omega arith
  stands_steps (suc n) (finished r) k h e = never (cc)
  stands_steps (suc n) (at o ls q) k h e =
      let f = stands_steps n (turn program o ls q) (suc k) (turn_stands (λ o. o.steps ≡ suc k) (steps_kept (suc k)) program o ls q (omega arith)) e in
      omega arith

-- ---- a whole run

module _ (text input : List ℕ) (lent : Lent) (budget : ℕ) (l : LineNumber) where
  abbrev start : Standing
  start = entering (fresh text input lent) (lines_of text)

  out_view : RunView text input lent budget → (run_of text input lent budget).ending ≡ Out l → AnotherStands text input lent budget l
  out_view (long h e) f = let g = rw e at f in never (cc)
  out_view (tall h k e) f = let g = rw e at f in never (cc)
  out_view (unloaded r p h s k e) f = let g = rw e at f in never (cc)
  out_view (runs h s k e) f =
      let y = running_stands budget text start l (entering_not_out (fresh text input lent) (lines_of text)) (rw e at f) in
      record { small = h; few = s; loads = k; machine = y.machine; lines = y.lines; part = y.part; stands = y.stands; numbered = y.numbered }

  run_out : (a : AnotherStands text input lent budget l) → run_of text input lent budget ≡ ends_with (Out l) a.machine
  unfolding run_of
  run_out a =
      rw (le-ltb longest_space lent.space a.small, le-ltb most_records lent.records a.few, a.loads, ← a.numbered)
      (stands_out text a.machine a.lines a.part budget start a.stands)

  another_steps : (a : AnotherStands text input lent budget l) → a.machine.steps ≡ budget
  another_steps a =
      let h = stands_steps text a.machine a.lines a.part budget start 0
      (entering_stands (λ o. o.steps ≡ 0) (fresh text input lent) (lines_of text) refl) a.stands in
      omega arith

pub out_of_steps : OutOfSteps
out_of_steps text input lent budget l = (
  (λ e. out_view text input lent budget l (run_view text input lent budget) e),
  (λ a. ap (λ (r : Ran). r.ending) (run_out text input lent budget l a)),
)

module _ (c : RunCall) (l : LineNumber) where
  outcome_told : c.answer.outcome ≡ (run_of (text_of c) (input_of c) (lent_of c) (budget_of c)).ending
  outcome_told = ap (λ (y : code.Ran). y.outcome) c.allowed.0

  told_stands : c.answer.outcome ≡ Out l → AnotherStands (text_of c) (input_of c) (lent_of c) (budget_of c) l
  told_stands h = (out_of_steps (text_of c) (input_of c) (lent_of c) (budget_of c) l).0 (sym outcome_told ∙ h)

  stands_told : AnotherStands (text_of c) (input_of c) (lent_of c) (budget_of c) l → c.answer.outcome ≡ Out l
  stands_told a = outcome_told ∙ (out_of_steps (text_of c) (input_of c) (lent_of c) (budget_of c) l).1 a

  told_spent : c.answer.outcome ≡ Out l → c.answer.steps ≡ budget_of c
  told_spent h =
      let a = told_stands h in
      ap (λ (y : code.Ran). y.steps) c.allowed.0
      ∙ ap (λ (r : Ran). r.machine.steps) (run_out (text_of c) (input_of c) (lent_of c) (budget_of c) l a)
      ∙ another_steps (text_of c) (input_of c) (lent_of c) (budget_of c) l a

pub out_of_steps_exactly : OutOfStepsExactly
out_of_steps_exactly c l = record { exactly = (told_stands c l, stands_told c l); spent = told_spent c l }
