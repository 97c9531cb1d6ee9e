use Rattle.turns.proofs.turning.after.Goals as goal

pub returns : goal.returns
returns c = rw c.is_symbol-colon.ensures
