-- Out of steps: if the next statement would exceed the budget, the outcome is 'out of steps' at its line. A statement has the proof of its
-- name, in snake case, in `proofs/OutOfSteps.antt`.
use Rattle.std.specs.Prelude.{◌≡◌, List, ◌↔◌, ℕ, ◌≤◌, Ok}
use Rattle.words.specs.declared.places.LineNumber.{LineNumber}
use Rattle.loader.specs.Lines.{Line, lines_of}
use Rattle.loader.specs.Loading.{load_of}
use Rattle.grammar.specs.Trees.{Part}
use Rattle.variables.specs.Strings.{longest_space}
use Rattle.machine.specs.Items.{fresh}
use Rattle.machine.specs.Machine.{Machine, Lent, most_records}
use Rattle.runner.specs.Run.{line_number_of, at, entering, run_of}
use Rattle.runner.specs.declared.running.Outcome.TheVariants.{Out}
use Rattle.promises.specs.Calls.{RunCall, text_of, input_of, lent_of, budget_of}
use Rattle.promises.specs.Passing.{stands_after}

-- neither string space, records nor text are refused, as many statements as the budget were begun without an end to the run, and another stands at
-- the line
pub record AnotherStands (text input : List ℕ) (lent : Lent) (budget : ℕ) (l : LineNumber) : Type 0 where
  pub small : lent.space ≤ longest_space
  pub few : lent.records ≤ most_records
  pub loads : load_of text ≡ Ok tt
  pub machine : Machine
  pub lines : List Line
  pub part : Part
  pub stands : stands_after budget text (entering (fresh text input lent) (lines_of text)) ≡ at machine lines part
  pub numbered : line_number_of lines ≡ l

-- A run of any text, on any input, with whatever it is lent and any budget is out of steps at a line if and only if as many statements as its
-- budget were begun and another stands at that line. It is said of the definition, and says nothing of steps. Ruled out: a definition by which a
-- run is out when its budget is spent at the end of a line, whatever follows; one that looks at the budget before it judges a line.
abbrev pub OutOfSteps : Type 0
OutOfSteps =
    (text input : List ℕ) (lent : Lent) (budget : ℕ) (l : LineNumber)
    → ((run_of text input lent budget).ending ≡ Out l) ↔ AnotherStands text input lent budget l

pub record OutExactly (c : RunCall) (l : LineNumber) : Type 0 where
  pub exactly : (c.answer.outcome ≡ Out l) ↔ AnotherStands (text_of c) (input_of c) (lent_of c) (budget_of c) l
  pub spent : c.answer.outcome ≡ Out l → c.answer.steps ≡ budget_of c

-- A run is out of steps at a line if and only if as many statements as its budget were begun and another stands at that line; then its steps
-- are the budget. So a recipe that is over with the last step of its budget has ended, and a line that does not read, entered when the budget
-- is spent, is 2. It does not say how many steps a statement should count. Ruled out: a run that is out when its budget is spent, though
-- nothing stands any more; one that names the line of the statement that was begun last, not of the one that stands.
abbrev pub OutOfStepsExactly : Type 0
OutOfStepsExactly = (c : RunCall) (l : LineNumber) → OutExactly c l
