-- A run: line by line, statement by statement, within the budget.
use Rattle.loader.specs.declared.refusals.RefusedAt.{RefusedAt}
use Rattle.std.specs.Prelude.{Bool, true, false, cond, List, [], ◌∷◌, ◌++◌, ℕ, zero, suc, ◌-◌, ltb, length, drop, replicate, Err, Ok, Result}
use Rattle.whole.specs.Digits.{leading_value}
use Rattle.whole.specs.Errors.{error_number}
use Rattle.whole.specs.declared.errors.Error.{Error}
use Rattle.whole.specs.declared.errors.Error.TheVariants.{Syntax, FormulaTooComplex}
use Rattle.loader.specs.Lines.{Line, lines_of, after_number, next_line}
use Rattle.loader.specs.Loading.{load_of}
use Rattle.loader.specs.Refusals.{refusal_number}
use Rattle.loader.specs.declared.refusals.Refusal.TheVariants.{SpaceTooLong, StackTooLong}
use Rattle.words.specs.Places.{place, line_number}
use Rattle.words.specs.declared.places.LineNumber.{LineNumber}
use Rattle.grammar.specs.Trees.{Part}
use Rattle.reader.specs.Lines.{Judgement, unreadable, too_deep, holds, judgement}
use Rattle.statements.specs.Parts.{Rest, nothing, part, head_of, tail_of, place_of}
use Rattle.variables.specs.Variables.{Variables, string_bytes, joined_strings}
use Rattle.variables.specs.Tables.{numbers_table, strings_table}
use Rattle.variables.specs.declared.tables.Tables.{Tables}
use Rattle.variables.specs.Strings.{longest_space}
use Rattle.runner.specs.declared.running.Done.{Done}
use Rattle.runner.specs.declared.running.Ran as code
use Rattle.runner.specs.declared.running.Outcome.{Outcome}
use Rattle.runner.specs.declared.running.Outcome.TheVariants.{Ended, Stopped, Out, Failed, Refused}
use Rattle.machine.specs.Items.{fresh}
use Rattle.machine.specs.Machine.{Machine, Lent, most_records, with_step}
use Rattle.machine.specs.Records.{blank_record}
use Rattle.machine.specs.declared.records.Record.{Record}
use Rattle.turns.specs.Steps.{Next, goes_on, enters, ends, stops, fails, do_statement}

pub record Ran : Type 0 where
  pub ending : Outcome
  pub machine : Machine

abbrev pub ends_with : Outcome → Machine → Ran
ends_with e m = record { ending = e; machine = m }

abbrev pub line_number_of : List Line → LineNumber
line_number_of [] = line_number 0
line_number_of (l ∷ ls) = line_number (leading_value l.bytes)

-- ---- a line is judged whole each time it is entered from its start

pub data Entered : Type 0 where
  over : Entered
  faulty : Error → Entered
  opened : Part → Entered

-- 2 if it doesn't read; else 16 if it is nested too deep
abbrev pub judged_line : Judgement → Entered
judged_line unreadable = faulty Syntax
judged_line too_deep = faulty FormulaTooComplex
judged_line (holds p) = opened p

unfoldable pub enter : List Line → Entered
enter [] = over
enter (l ∷ ls) = judged_line (judgement (after_number l))

-- ---- where the run stands: at a statement of a line, or it is over

pub data Standing : Type 0 where
  finished : Ran → Standing
  at : Machine → List Line → Part → Standing

abbrev pub by_entered : Entered → Machine → List Line → Standing
by_entered over m lines = finished (ends_with Ended m)
by_entered (faulty e) m lines = finished (ends_with (Failed e (line_number_of lines)) m)
by_entered (opened p) m lines = at m lines p

abbrev pub entering : Machine → List Line → Standing
entering m lines = by_entered (enter lines) m lines

-- what is left of a part, or the next line
abbrev pub onward : Machine → List Line → Rest → Standing
onward m lines nothing = entering m (next_line lines)
onward m lines (part p) = at m lines p

abbrev pub following : LineNumber → Next → Standing
following line (goes_on m p) = onward m p.lines p.rest
following line (enters m lines) = entering m lines
following line (ends m) = finished (ends_with Ended m)
following line (stops m) = finished (ends_with (Stopped line) m)
following line (fails e m) = finished (ends_with (Failed e line) m)

-- one statement counts one step when begun
abbrev pub turn : List ℕ → Machine → List Line → Part → Standing
turn program m lines p =
    following (line_number_of lines)
    (do_statement program (place_of p) (head_of p) (with_step m) (record { lines = lines; rest = tail_of p }))

abbrev pub by_standing : Standing → (Machine → List Line → Part → Ran) → Ran
by_standing (finished r) go = r
by_standing (at m lines p) go = go m lines p

-- if the next statement would exceed the budget, the run is out of steps at its line
unfoldable pub running : ℕ → List ℕ → Standing → Ran
running zero program standing = by_standing standing (λ m lines p. ends_with (Out (line_number_of lines)) m)
running (suc n) program standing = by_standing standing (λ m lines p. running n program (turn program m lines p))

abbrev pub if_loaded : Result (Unit {0}) RefusedAt → Machine → (Unit {0} → Ran) → Ran
if_loaded (Ok _) m go = go tt
if_loaded (Err e) m go = ends_with (Refused e.refusal e.place) m

-- a run of a text on an input, with what it is lent and a budget of steps; a string space over 16,384 bytes is refused (106), then a stack
-- of over 256 records (107), before the text is loaded
unfoldable pub run_of : List ℕ → List ℕ → Lent → ℕ → Ran
run_of text input lent budget =
    cond (ltb longest_space lent.space) (ends_with (Refused SpaceTooLong (place 0)) (fresh text input lent))
    (cond (ltb most_records lent.records) (ends_with (Refused StackTooLong (place 0)) (fresh text input lent))
    (if_loaded (load_of text) (fresh text input lent) (λ _. running budget text (entering (fresh text input lent) (lines_of text)))))

-- ---- what is answered: outcome word, number, line, place; what does not apply is 0

abbrev pub number_in : Outcome → ℕ
number_in Ended = 0
number_in (Stopped l) = 0
number_in (Out l) = 0
number_in (Failed e l) = error_number e
number_in (Refused r p) = refusal_number r

abbrev pub line_in : Outcome → ℕ
line_in Ended = 0
line_in (Stopped l) = l.0
line_in (Out l) = l.0
line_in (Failed e l) = l.0
line_in (Refused r p) = 0

abbrev pub place_in : Outcome → ℕ
place_in Ended = 0
place_in (Stopped l) = 0
place_in (Out l) = 0
place_in (Failed e l) = 0
place_in (Refused r p) = p.0

-- ---- what the host has after a run

abbrev pub is_refused : Outcome → Bool
is_refused Ended = false
is_refused (Stopped l) = false
is_refused (Out l) = false
is_refused (Failed e l) = false
is_refused (Refused r p) = true

-- both tables hold the variables in order of first assignment, and zeros after them
abbrev pub tables_of : Variables → Tables
tables_of v = record { numbers = numbers_table v.numbers; strings = strings_table v.strings }

-- a refusal leaves the tables as they were
abbrev pub answer_of : Ran → Tables → code.Ran
answer_of r tables = record {
  outcome = r.ending;
  steps = r.machine.steps;
  written = length r.machine.output;
  taken = r.machine.taken;
  tables = cond (is_refused r.ending) tables (tables_of r.machine.variables);
}

-- the string space: the string variables' bytes joined in order of first assignment, and zeros after; a refusal leaves it as it was
abbrev pub space_after : Ran → List ℕ → List ℕ
space_after r space =
    cond (is_refused r.ending) space
    (joined_strings r.machine.variables.strings
    ++ replicate (length space - string_bytes r.machine.variables.strings) 0)

-- the output, and the room beyond it unchanged
abbrev pub room_after : Ran → List ℕ → List ℕ
room_after r room = r.machine.output ++ drop (length r.machine.output) room

-- all records are zeros, to the last byte; a refusal leaves them as they were
abbrev pub stack_after : Ran → List Record → List Record
stack_after r stack = cond (is_refused r.ending) stack (replicate (length stack) blank_record)

-- an answer with the tables that are lent beside it
abbrev pub ran_of : Done → Tables → code.Ran
ran_of d tables = record {
  outcome = d.outcome;
  steps = d.steps;
  written = d.written;
  taken = d.taken;
  tables = tables;
}
