-- Bridge: the end of a run, and what is refused before it.
-- The contracts of functions inside this crate cite it; no demand and no promise of run, check_recipe or ask rests on it.
use Rattle.loader.specs.declared.refusals.RefusedAt.{RefusedAt}
use Rattle.std.specs.Prelude.{◌≡◌, false, cond, List, ℕ, ltb, Result}
use Rattle.words.specs.Places.{place}
use Rattle.words.specs.declared.places.Place.{Place}
use Rattle.loader.specs.Lines.{lines_of}
use Rattle.loader.specs.Refusals.{refused_at}
use Rattle.loader.specs.declared.refusals.Refusal.{Refusal}
use Rattle.loader.specs.declared.refusals.Refusal.TheVariants.{SpaceTooLong, StackTooLong}
use Rattle.rows.specs.bridge.Rows.{span_in}
use Rattle.variables.specs.Strings.{longest_space}
use Rattle.variables.specs.declared.tables.Tables.{Tables}
use Rattle.machine.specs.Items.{fresh}
use Rattle.machine.specs.Machine as spec
use Rattle.machine.specs.Machine.{most_records}
use Rattle.machine.specs.bridge.Holding.{State}
use Rattle.machine.specs.declared.state.Machine.{Machine}
use Rattle.runner.specs.declared.running.Done.{Done}
use Rattle.runner.specs.Run as run
-- it stands among what is to be believed, as the run's contract names it
pub use Rattle.runner.specs.Run.{ran_of}
use Rattle.runner.specs.Run.{entering, running, is_refused, answer_of, space_after, room_after}
use Rattle.runner.specs.declared.running.Outcome.{Outcome}
use Rattle.runner.specs.declared.running.Outcome.TheVariants.{Out, Refused}
use Rattle.runner.specs.declared.running.Ran.{Ran}
use Rattle.runner.specs.declared.standing.Standing.{Standing}
use Rattle.runner.specs.declared.standing.Standing.TheVariants as standing

-- the run of a text that loads
abbrev pub run_in : List ℕ → List ℕ → spec.Lent → ℕ → run.Ran
run_in text input lent budget = running budget text (entering (fresh text input lent) (lines_of text))

-- where no step is made any more: the run is over, or out of steps
abbrev pub outcome_of : List ℕ → Standing → Outcome
outcome_of rows (standing.Over o) = o
outcome_of rows (standing.At row at) = Out (span_in rows row.0).number

-- what the loop answers
abbrev pub done_as : Outcome → Machine → Done
done_as o m =
    record { outcome = o; steps = m.steps; written = m.printer.written; taken = m.taken.0 }

abbrev pub ended_as : Outcome → State → Ran
ended_as o m =
    record { outcome = o; steps = m.steps; written = m.printer.written; taken = m.taken; tables = m.tables }

-- the memory and the answer are those of a run that was not refused
pub record RanAs (ran : run.Ran) (space room : List ℕ) (r : Ran) (space' room' : List ℕ) : Type 0 where
  pub begun : is_refused ran.ending ≡ false
  pub answers : (tables : Tables) → r ≡ answer_of ran tables
  pub spaced : space' ≡ space_after ran space
  pub roomy : room' ≡ room_after ran room

-- ---- refusals

abbrev pub refused_as : Refusal → Place → Done
refused_as refusal place = record { outcome = Refused refusal place; steps = 0; written = 0; taken = 0 }

-- what is tested before the text is loaded, and then what loading answers
abbrev pub admitted : ℕ → ℕ → Result (Unit {0}) RefusedAt → Result (Unit {0}) RefusedAt
admitted space records loaded =
    cond (ltb longest_space space) (refused_at SpaceTooLong (place 0))
    (cond (ltb most_records records) (refused_at StackTooLong (place 0)) loaded)
