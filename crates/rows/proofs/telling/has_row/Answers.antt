-- By how many there are.
use Rattle.rows.proofs.telling.has_row.Goals as goal

pub returns : goal.returns
returns c = rw c.count_of.ensures
