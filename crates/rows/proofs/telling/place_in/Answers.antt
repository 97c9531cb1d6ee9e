-- As the row has it.
use Rattle.rows.proofs.telling.place_in.Goals as goal

pub returns : goal.returns
returns c = rw c.cell_in.ensures
