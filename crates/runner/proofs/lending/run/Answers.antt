-- What the run over tables that are lent comes to, with those tables.
use Rattle.runner.proofs.lending.run.Goals as goal

pub returns : goal.returns
returns c = c.run_lent-done.ensures
