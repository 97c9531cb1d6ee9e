-- A number that is given is within its limit.
use Rattle.console.proofs.Values.{given_limited}
use Rattle.console.proofs.arguments.NumberArgument.read.Goals as goal

pub returns : goal.returns
returns g c = rw c.number_given.ensures (given_limited _ _)
