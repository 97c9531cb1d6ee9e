-- The loosest level is that of a whole formula.
use mathlib.Core.Path.{sym, ◌∙◌}
use Rattle.skimming.proofs.Fuel.{formula_level}
use Rattle.formulas.proofs.evaluating.work_out.Goals as goal

pub formula-requires : goal.formula-requires
formula-requires c = rw (formula_level c.args.line.now c.args.ahead) at c.requires

pub returns : goal.returns
returns c f u e = c.formula.ensures f u (sym (formula_level c.args.line.now c.args.ahead) ∙ e)
