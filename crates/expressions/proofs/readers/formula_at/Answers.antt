-- The fuel that the grammar gives is enough.
use Rattle.expressions.proofs.Steps.{formula_of_lem}
use Rattle.expressions.proofs.readers.formula_at.Goals as goal

pub returns : goal.returns
returns c = formula_of_lem c.args.line.now c.args.ahead c.formula.result c.formula.ensures
