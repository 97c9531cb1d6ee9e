-- A run of what the check has passed. Nothing else is run, and then nothing that was lent has changed.
use Rattle.checker.specs.declared.checking.Fault.{Fault}
use Rattle.std.specs.Prelude.{Bool, true, List, ℕ, Err, Ok, Result}
use Rattle.variables.specs.declared.tables.Tables.{Tables}
use Rattle.checker.specs.Check.{check_of}
use Rattle.machine.specs.Machine.{Lent}
use Rattle.runner.specs.declared.running.Outcome.{Outcome}
use Rattle.runner.specs.declared.running.Ran as code
use Rattle.runner.specs.Run.{Ran, answer_of, space_after, room_after, run_of}
use Rattle.promises.specs.Passing.{ends_well}
use Rattle.promises.specs.declared.guarding.CheckedRun.{CheckedRun}

pub data Guarded : Type 0 where
  held : Fault → Guarded
  let_through : Ran → Guarded

abbrev pub guarded : Result (Unit {0}) Fault → (Unit {0} → Ran) → Guarded
guarded (Ok _) go = let_through (go tt)
guarded (Err fault) go = held fault

-- the check's verdict decides, whatever the input is, what is lent, and the budget
unfoldable pub guarded_run : List ℕ → List ℕ → Lent → ℕ → Guarded
guarded_run text input lent budget = guarded (check_of text) (λ _. run_of text input lent budget)

-- what was run never ends in 2, 8, 13 or 16
abbrev pub ends_checked : Result Outcome Fault → Bool
ends_checked (Ok o) = ends_well o
ends_checked (Err fault) = true

-- ---- what the host has after it

abbrev pub held_as : Fault → Tables → CheckedRun
held_as fault tables = record { outcome = Err fault; steps = 0; written = 0; taken = 0; tables = tables }

abbrev pub run_as : code.Ran → CheckedRun
run_as r = record { outcome = Ok r.outcome; steps = r.steps; written = r.written; taken = r.taken; tables = r.tables }

abbrev pub guarded_answer : Guarded → Tables → CheckedRun
guarded_answer (held fault) tables = held_as fault tables
guarded_answer (let_through r) tables = run_as (answer_of r tables)

abbrev pub guarded_space : Guarded → List ℕ → List ℕ
guarded_space (held fault) space = space
guarded_space (let_through r) space = space_after r space

abbrev pub guarded_room : Guarded → List ℕ → List ℕ
guarded_room (held fault) room = room
guarded_room (let_through r) room = room_after r room
