use Rattle.machine.specs.bridge.Holding.{state_of}
use Rattle.control.proofs.branching.taken.Goals as goal

pub returns : goal.returns
returns c = λ tables. rw c.turned_to.ensures (c.position_of.ensures (state_of c.args.machine tables))
