use Rattle.turns.proofs.turning.turned_to.Goals as goal

pub returns : goal.returns
returns c = rw c.blank.ensures
