-- Part by part.
use Rattle.rows.proofs.telling.span_in.Goals as goal

pub returns : goal.returns
returns c = rw (c.word_in.ensures, c.cell_in.ensures, c.cell_in-2.ensures, c.cell_in-3.ensures, c.cell_in-4.ensures)
