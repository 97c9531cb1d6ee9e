-- Blank tables, and those of the lines, are what the run by them asks for.
use Rattle.std.proofs.Common.{refl}
use Rattle.rows.proofs.Ordering.{ordered}
use Rattle.runner.proofs.lending.run_fine.Goals as goal

pub rows_by-requires : goal.rows_by-requires
rows_by-requires c = (c.requires.loads, refl)

pub invariant_of-table : goal.invariant_of-table
invariant_of-table c = record { ordered = ordered c.rows_by.ensures }

pub run_loaded-requires : goal.run_loaded-requires
run_loaded-requires c = record { tabled = c.rows_by.ensures; blank = c.empty.ensures; small = c.requires.small; few = c.requires.few }
