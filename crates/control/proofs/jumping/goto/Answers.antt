use mathlib.Core.Path.{sym, ◌∙◌}
use Rattle.turns.specs.Steps.{enters}
use Rattle.control.proofs.Jumps.{line_missing, goto_found}
use Rattle.control.proofs.jumping.goto.Goals as goal

pub returns-in-None : goal.returns-in-None
returns-in-None c = λ text input space room tables at after t s.
    rw c.fails.ensures (line_missing _ s (λ n ls. enters n ls) (sym (c.line_numbered.ensures text t) ∙ c.in-None.is))

pub returns-in-Some : goal.returns-in-Some
returns-in-Some c = λ text input space room tables at after t s.
    rw c.turned_to.ensures (goto_found _ s at after (sym (c.line_numbered.ensures text t) ∙ c.in-Some.is))
