-- The numbers behind the first, cut into rows (`table_cell`).
use mathlib.Core.Path.{ap₂}
use native.Mathlib.Omega.{arith}
use lib.ListN.{take, length-drop}
use Rattle.std.proofs.lemmas.Slice.{between_to_end}
use Rattle.loader.proofs.Chunks.{cut_behind}
use Rattle.rows.proofs.Searching.{table_cell}
use Rattle.rows.proofs.finding.table_of.Goals as goal

pub returns-clause-cells : goal.returns-clause-cells
returns-clause-cells c = λ i k h b.
    let rows = c.args.rows.now in
    let cut = cut_behind _ c.as_chunks.ensures.front (between_to_end rows 1 3073 (omega arith)) in
    table_cell rows (ap₂ take c.count_of.ensures cut) (omega (arith, length-drop 1 rows)) i k h b
