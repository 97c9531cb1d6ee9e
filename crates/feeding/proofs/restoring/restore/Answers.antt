use mathlib.Core.Path.{sym, ◌∙◌}
use Rattle.turns.proofs.Beginning.{on_line_lem, no_line}
use Rattle.turns.proofs.Doing.{any_told}
use Rattle.feeding.proofs.Lines.{restores_all}
use Rattle.feeding.proofs.restoring.restore.Goals as goal

pub returns-in-None : goal.returns-in-None
returns-in-None c = λ text input space room tables at found entry t sound.
    rw (no_line c.args.from.token _ _ (sym c.line_of.ensures ∙ c.in-None.is))
    (λ p. rw (c.goes_on.ensures, c.with_feed.ensures tables, c.from_line.ensures) (any_told (restores_all sound at c.args.here c.args.from p)))

pub returns-in-Some : goal.returns-in-Some
returns-in-Some c = λ text input space room tables at found entry t sound.
    rw (on_line_lem c.args.from.token _ _ (sym c.line_of.ensures ∙ c.in-Some.is), ← c.token_at.ensures)
    (λ p. any_told (c.restore_to.ensures text input space room tables at t sound p))
