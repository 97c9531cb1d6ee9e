-- The verdict is the definition's, and so is the run.
use mathlib.Core.Path.{sym, ◌∙◌}
use Rattle.promises.proofs.Passage.{passed_run, held_run}
use Rattle.promises.proofs.guarding.run_checked.Goals as goal

pub returns-in-Ok : goal.returns-in-Ok
returns-in-Ok c =
    passed_run c.args.text.now c.args.input.now c.args.space.now c.args.room.now c.args.records c.args.budget c.args.tables
    (sym c.check_recipe.ensures ∙ c.in-Ok.is) c.run_with.ensures c.from.ensures

pub returns-in-Err : goal.returns-in-Err
returns-in-Err c = held_run _ _ _ _ _ _ _ (sym c.check_recipe.ensures ∙ c.in-Err.is) c.held.ensures
