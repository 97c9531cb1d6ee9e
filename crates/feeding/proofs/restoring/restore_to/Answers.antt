use mathlib.Core.Path.{sym, ◌∙◌}
use Rattle.feeding.proofs.Lines.{restores_none, restores_from}
use Rattle.feeding.proofs.restoring.restore_to.Goals as goal

pub returns-in-None : goal.returns-in-None
returns-in-None c = λ text input space room tables at t sound p. rw c.fails.ensures (restores_none sound at c.args.here c.args.ahead p c.args.number (sym (c.line_numbered.ensures text t) ∙ c.in-None.is))

pub returns-in-Some : goal.returns-in-Some
returns-in-Some c = λ text input space room tables at t sound p.
    rw (c.goes_on.ensures, c.with_feed.ensures tables, c.from_line.ensures)
    (restores_from sound at c.args.here c.args.ahead p c.args.number (sym (c.line_numbered.ensures text t) ∙ c.in-Some.is))
