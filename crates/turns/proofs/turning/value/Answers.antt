use Rattle.turns.proofs.Working.{valued}
use Rattle.turns.proofs.turning.value.Goals as goal

pub returns : goal.returns
returns c = λ f u e. valued c.requires.1 (c.work_out.ensures f u e)
