use borrow.Enum.Refused.{opened as unsealed}
use Rattle.turns.proofs.Beginning.{assign_formed}
use Rattle.turns.proofs.Doing.{set_does}
use Rattle.grammar.specs.Formulas.{after}
use Rattle.statements.specs.Statements.{variable_of}
use Rattle.machine.proofs.Tokens.{no_name}
use Rattle.turns.proofs.setting.set.Goals as goal

pub assign-requires : goal.assign-requires
assign-requires c = (
  rw (c.token_at.ensures, c.token_at-equals.ensures)
      (assign_formed c.args.line.now c.requires.1.0 (variable_of c.args.line.now c.in-Named.name) (after c.args.line.now c.args.target) (rw c.in-Named.is at c.requires.0)),
  c.requires.1.1,
)

pub returns-in-Named : goal.returns-in-Named
returns-in-Named c = λ text input room at found entry sound.
    set_does text _ c.args.here at _ found entry input _ room _ _ room c.args.target c.in-Named.name c.in-Named.is
    (λ f u p e. c.assign.ensures text input room at f u sound p (rw (c.token_at.ensures, c.token_at-equals.ensures) e))

pub returns-in_default : goal.returns-in_default
returns-in_default c = λ text input room at found entry sound. rw (no_name c.args.target.token _ _ (unsealed c.in_default.in_default-own.keys2)) tt
