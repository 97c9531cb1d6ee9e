-- The texts are joined, or compared and the comparison said; no other operator takes texts.
use borrow.Enum.Refused.{opened as unsealed}
use mathlib.Core.Path.{sym, ◌∙◌}
use Rattle.operators.proofs.Sides.{beside_compared, beside_joined}
use Rattle.operators.proofs.applying.on_texts.Goals as goal

pub returns-in-Add : goal.returns-in-Add
returns-in-Add c = rw (c.in-Add.is, c.join.ensures) (beside_joined c.args.space.now c.args.used.0 c.args.first c.args.second c.requires c.args.ahead)

pub returns-in_default : goal.returns-in_default
returns-in_default c = beside_compared c.args.space.now c.args.used.0 c.args.first c.args.second c.requires c.args.ahead c.args.operator
    (sym c.wants_whole.ensures ∙ c.if-wants_whole.false) (unsealed c.in_default.in_default-own.keys2)
    c.answered.ensures c.truth.ensures c.holds.ensures c.compare.ensures
