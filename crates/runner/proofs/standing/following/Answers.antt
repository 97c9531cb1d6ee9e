-- An arm for each place that a statement leads to.
use Rattle.runner.proofs.Entering.{row_of_lines}
use Rattle.runner.proofs.standing.following.Goals as goal

pub returns-in-Enter : goal.returns-in-Enter
returns-in-Enter c = rw c.in-Enter.is
    (record { rowed = c.entered.ensures.rowed; stands = λ text t b m. rw (row_of_lines c.row_of.ensures t b) (c.entered.ensures.stands text t tt m) })
