-- Calls of `run`, `check_recipe` and `ask`, and of the library's functions for these: what was passed, and what lent memory holds before and after.
-- What a call is, and that its answer is the only one, is said for all functions in calls/specs/Calls.antt.
use Rattle.std.specs.Prelude.{◌≡◌, List, ℕ, length, get_or}
pub use Rattle.calls.specs.Calls.{Call, Always, Unique}
use Rattle.variables.specs.declared.tables.Tables.{Tables}
use Rattle.machine.specs.Machine.{Lent, lent_by}
use Rattle.machine.specs.declared.records.Record.{Record}
use Rattle.runner.specs.Run as run
use Rattle.runner.specs.Run.{run_of}
use Rattle.host.specs.Calls.{HasRun}
use Rattle.calls.specs.Lent as lent
use Rattle.checker.specs.Check.{check_of}
use Rattle.asking.specs.Asking.{ask_of}
use Rattle.blocks.specs.Blocks.{tables_in}
use Rattle.host.specs.Answers.{verdict_in, found_in}
use Rattle.checker.specs.contracts as checker
use Rattle.asking.specs.contracts as asking
use Rattle.runner.specs.contracts as runner
use Rattle.host.specs.contracts as host

-- ---- `run(text, input, space, room, index, stack, budget, tables)`

-- what its contract allows (`run` of proofs/TheSame): whatever the index holds, which is the fifth of what is passed
abbrev pub RunAllows : lent.Allows runner.run.ended
RunAllows lifetimes a r e =
    let ran = run_of a.0.now a.1.0.now (lent_by a.1.1.0.now a.1.1.1.0.now (length a.1.1.1.1.1.0.now)) a.1.1.1.1.1.1.0 in
    (r ≡ run.answer_of ran a.1.1.1.1.1.1.1.0)
    × ((e.1.1.0.now ≡ run.space_after ran a.1.1.0.now)
    × ((e.1.1.1.0.now ≡ run.room_after ran a.1.1.1.0.now) × (e.1.1.1.1.1.0.now ≡ run.stack_after ran a.1.1.1.1.1.0.now)))

abbrev pub RunCall : Type 0
RunCall = lent.Call runner.run.ended RunAllows

abbrev pub RunsAlways : Type 0
RunsAlways = lent.Always runner.run.ended RunAllows

abbrev pub text_of : RunCall → List ℕ
text_of c = c.passed.0.now

abbrev pub input_of : RunCall → List ℕ
input_of c = c.passed.1.0.now

-- the string space, the room for output and the records, as they were lent and as they are left
abbrev pub space_before : RunCall → List ℕ
space_before c = c.passed.1.1.0.now

abbrev pub space_after : RunCall → List ℕ
space_after c = c.left.1.1.0

abbrev pub room_before : RunCall → List ℕ
room_before c = c.passed.1.1.1.0.now

abbrev pub room_after : RunCall → List ℕ
room_after c = c.left.1.1.1.0

abbrev pub stack_before : RunCall → List Record
stack_before c = c.passed.1.1.1.1.1.0.now

abbrev pub stack_after : RunCall → List Record
stack_after c = c.left.1.1.1.1.1.0

abbrev pub lent_of : RunCall → Lent
lent_of c = lent_by (space_before c) (room_before c) (length (stack_before c))

abbrev pub budget_of : RunCall → ℕ
budget_of c = c.passed.1.1.1.1.1.1.0

abbrev pub tables_before : RunCall → Tables
tables_before c = c.passed.1.1.1.1.1.1.1.0

-- ---- `check_recipe(text)`

abbrev pub CheckAllows : lent.Allows checker.check_recipe.ended
CheckAllows lifetimes a r e = r ≡ check_of a.0.now

abbrev pub CheckCall : Type 0
CheckCall = lent.Call checker.check_recipe.ended CheckAllows

abbrev pub ChecksAlways : Type 0
ChecksAlways = lent.Always checker.check_recipe.ended CheckAllows

abbrev pub recipe_of : CheckCall → List ℕ
recipe_of c = c.passed.0.now

-- ---- `ask(tables, space, name)`

abbrev pub AskAllows : lent.Allows asking.ask.ended
AskAllows lifetimes a r e = r ≡ ask_of a.0 (length a.1.0.now) a.1.1.0.now

abbrev pub AskCall : Type 0
AskCall = lent.Call asking.ask.ended AskAllows

abbrev pub AsksAlways : Type 0
AsksAlways = lent.Always asking.ask.ended AskAllows

abbrev pub tables_handed : AskCall → Tables
tables_handed c = c.passed.0

abbrev pub space_handed : AskCall → List ℕ
space_handed c = c.passed.1.0.now

abbrev pub name_asked : AskCall → List ℕ
name_asked c = c.passed.1.1.0.now

-- ---- `quernhem_run(text, input, space, room, index, records, budget, tables, answer)`

-- what its contract allows (`quernhem_run` of proofs/TheSame)
abbrev pub BoxAllows : lent.Allows host.quernhem_run.ended
BoxAllows lifetimes a r e =
    HasRun (run_of a.0.now a.1.0.now (lent_by a.1.1.0.now a.1.1.1.0.now (length a.1.1.1.1.1.0.now)) a.1.1.1.1.1.1.0)
    a.1.1.0.now a.1.1.1.0.now a.1.1.1.1.1.0.now a.1.1.1.1.1.1.1.0.now
    e.1.1.0.now e.1.1.1.0.now e.1.1.1.1.1.0.now e.1.1.1.1.1.1.1.0.now e.1.1.1.1.1.1.1.1.0.now

abbrev pub RunBox : Type 0
RunBox = lent.Call host.quernhem_run.ended BoxAllows

abbrev pub text_in : RunBox → List ℕ
text_in c = c.passed.0.now

abbrev pub input_in : RunBox → List ℕ
input_in c = c.passed.1.0.now

abbrev pub space_in : RunBox → List ℕ
space_in c = c.passed.1.1.0.now

abbrev pub space_out : RunBox → List ℕ
space_out c = c.left.1.1.0

abbrev pub room_in : RunBox → List ℕ
room_in c = c.passed.1.1.1.0.now

abbrev pub room_out : RunBox → List ℕ
room_out c = c.left.1.1.1.0

abbrev pub records_in : RunBox → List Record
records_in c = c.passed.1.1.1.1.1.0.now

abbrev pub records_out : RunBox → List Record
records_out c = c.left.1.1.1.1.1.0

abbrev pub lent_in : RunBox → Lent
lent_in c = lent_by (space_in c) (room_in c) (length (records_in c))

abbrev pub budget_in : RunBox → ℕ
budget_in c = c.passed.1.1.1.1.1.1.0

abbrev pub block_in : RunBox → List ℕ
block_in c = c.passed.1.1.1.1.1.1.1.0.now

abbrev pub block_out : RunBox → List ℕ
block_out c = c.left.1.1.1.1.1.1.1.0

-- the words of the answer: outcome (4: refused), number, line, place, steps, bytes written, input bytes taken
abbrev pub answer_words : RunBox → List ℕ
answer_words c = c.left.1.1.1.1.1.1.1.1.0

abbrev pub answer_word : RunBox → ℕ → ℕ
answer_word c i = get_or (answer_words c) i 0

abbrev pub outcome_word : RunBox → ℕ
outcome_word c = answer_word c 0

abbrev pub number_word : RunBox → ℕ
number_word c = answer_word c 1

abbrev pub place_word : RunBox → ℕ
place_word c = answer_word c 3

abbrev pub refused_word : ℕ
refused_word = 4

-- ---- `quernhem_check(text, verdict)`

abbrev pub CheckBoxAllows : lent.Allows host.quernhem_check.ended
CheckBoxAllows lifetimes a r e = e.1.0.now ≡ verdict_in (check_of a.0.now)

abbrev pub CheckBox : Type 0
CheckBox = lent.Call host.quernhem_check.ended CheckBoxAllows

abbrev pub BoxChecksAlways : Type 0
BoxChecksAlways = lent.Always host.quernhem_check.ended CheckBoxAllows

abbrev pub recipe_in : CheckBox → List ℕ
recipe_in c = c.passed.0.now

-- 0 passed or 1 refused, number, line, place
abbrev pub passed_word : CheckBox → ℕ
passed_word c = get_or c.left.1.0 0 0

-- ---- `quernhem_ask(tables, space, name, found)`

abbrev pub AskBoxAllows : lent.Allows host.quernhem_ask.ended
AskBoxAllows lifetimes a r e = e.1.1.1.0.now ≡ found_in (ask_of (tables_in a.0.now) (length a.1.0.now) a.1.1.0.now)

abbrev pub AskBox : Type 0
AskBox = lent.Call host.quernhem_ask.ended AskBoxAllows

abbrev pub BoxAsksAlways : Type 0
BoxAsksAlways = lent.Always host.quernhem_ask.ended AskBoxAllows

abbrev pub block_asked : AskBox → List ℕ
block_asked c = c.passed.0.now

abbrev pub space_asked : AskBox → List ℕ
space_asked c = c.passed.1.0.now

abbrev pub name_in : AskBox → List ℕ
name_in c = c.passed.1.1.0.now

-- number (0 or 111), kind (0 whole, 1 text), value, start and length in the space
abbrev pub found_words : AskBox → List ℕ
found_words c = c.left.1.1.1.0

abbrev pub found_word : AskBox → ℕ → ℕ
found_word c i = get_or (found_words c) i 0
