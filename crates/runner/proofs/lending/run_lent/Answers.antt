-- What is tested before a run decides: it is made, or refused.
use Rattle.std.proofs.Common.{sym, ◌∙◌}
use Rattle.runner.proofs.Finishing.{runnable, run_fine, run_refused}
use Rattle.runner.proofs.lending.run_lent.Goals as goal

pub run_fine-requires : goal.run_fine-requires
run_fine-requires c = runnable _ _ _ (sym c.admits.ensures ∙ c.in-Ok.is)

pub returns-in-Ok : goal.returns-in-Ok
returns-in-Ok c = run_fine _ _ _ _ _ _ _ (sym c.admits.ensures ∙ c.in-Ok.is) c.run_fine.ensures

pub returns-in-Err : goal.returns-in-Err
returns-in-Err c = run_refused _ _ _ _ _ _ _ (sym c.admits.ensures ∙ c.in-Err.is) c.refused.ensures
