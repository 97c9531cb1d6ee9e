-- From the row that the line at the position has.
use Rattle.std.proofs.Common.{rules}
use Rattle.runner.proofs.Entering.{onward_over, onward_at}
use Rattle.runner.proofs.standing.onward.Goals as goal

pub returns-then-position : goal.returns-then-position
returns-then-position c = record { rowed = c.entered.ensures.rowed; stands = λ text t w m. onward_over c.row_of-here.ensures t w m c.if-position.true c.entered.result (c.entered.ensures.stands text t tt m) }

pub returns : goal.returns
returns c = record { rowed = search rules; stands = λ text t w m. onward_at c.row_of-here.ensures t w m c.if-position.false }
