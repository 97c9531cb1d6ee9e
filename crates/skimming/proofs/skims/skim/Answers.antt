-- Nothing is open where a formula begins.
use mathlib.Core.Path.{refl, ◌∙◌}
use mathlib.Core.List.{[]}
use Rattle.skimming.proofs.Agreement.{want_is, formula_wanted}
use Rattle.skimming.proofs.skims.skim.Goals as goal

pub returns : goal.returns
returns c = c.skim_from.ensures [] refl ∙ want_is c.args.line.now [] 0 c.args.ahead ∙ formula_wanted c.args.line.now c.args.ahead
