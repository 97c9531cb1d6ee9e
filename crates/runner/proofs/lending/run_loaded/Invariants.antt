-- From here on the run comes to the same, and each turn takes a step.
use Rattle.std.proofs.Common.{◌-◌}
use Rattle.runner.proofs.Walking.{Keeps}
use Rattle.runner.proofs.lending.run_loaded.Given as goal

abbrev pub invariant-loop-tables : goal.invariant-loop-tables
invariant-loop-tables l =
    Keeps l.text l.table.rows l.input l.budget l.initial.space l.initial.room l.initial.stack l.going l.tables l.space l.room l.stack

abbrev pub decreases-loop-tables : goal.decreases-loop-tables
decreases-loop-tables l = l.budget - l.going.machine.steps
