use mathlib.Core.Path.{sym, ◌∙◌}
use Rattle.turns.proofs.Beginning.{no_line}
use Rattle.control.proofs.Led.{call_does}
use Rattle.control.proofs.leading.call.Goals as goal

pub returns-in-None : goal.returns-in-None
returns-in-None c = λ text input space room tables at found entry t sound.
    rw (no_line c.args.target.token _ _ (sym c.line_of.ensures ∙ c.in-None.is)) tt

pub returns-in-Some : goal.returns-in-Some
returns-in-Some c = λ text input space room tables at found entry t sound.
    call_does _ _ c.args.here at _ found entry input space room _ space room c.args.target c.in-Some.number (sym c.line_of.ensures ∙ c.in-Some.is)
    (rw (← c.token_at.ensures) (c.gosub.ensures text input space room tables at t sound))
