-- The row of the line being done, or the one that was found; there is one.
use Rattle.runner.proofs.Entering.{row_given}
use Rattle.runner.proofs.standing.row_of.Goals as goal

pub returns : goal.returns
returns c = rw c.unwrap_or.ensures (row_given _ _ c.requires _ c.row_at.ensures)
