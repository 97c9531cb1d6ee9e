use mathlib.Core.Path.{sym, ◌∙◌}
use Rattle.turns.proofs.Beginning.{no_line}
use Rattle.control.proofs.Led.{jump_does}
use Rattle.control.proofs.leading.jump.Goals as goal

pub returns-in-None : goal.returns-in-None
returns-in-None c = λ text line input space room tables here at found entry t sound.
    rw (no_line c.args.target.token _ _ (sym c.line_of.ensures ∙ c.in-None.is)) tt

pub returns-in-Some : goal.returns-in-Some
returns-in-Some c = λ text line input space room tables here at found entry t sound.
    jump_does _ line here at _ found entry input space room _ space room c.args.target c.in-Some.number (sym c.line_of.ensures ∙ c.in-Some.is)
    (λ after. c.goto.ensures text input space room tables at after t sound)
