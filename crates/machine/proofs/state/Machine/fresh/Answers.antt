-- Its items are those from the first line on.
use Rattle.machine.proofs.state.Machine.fresh.Goals as goal

pub returns : goal.returns
returns c = rw c.from_line.ensures
