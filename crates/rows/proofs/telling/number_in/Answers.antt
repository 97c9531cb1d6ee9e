-- As the row has it.
use Rattle.rows.proofs.telling.number_in.Goals as goal

pub returns : goal.returns
returns c = rw c.word_in.ensures
