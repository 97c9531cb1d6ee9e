use Rattle.turns.proofs.turning.goes_on.Goals as goal

pub returns : goal.returns
returns c = rw (c.turned_to.ensures, c.after.ensures)
