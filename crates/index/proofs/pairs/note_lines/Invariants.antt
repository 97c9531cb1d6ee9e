use Rattle.index.proofs.Lining.{Lined}
use Rattle.index.proofs.pairs.note_lines.Given as goal

abbrev pub invariant-loop-row : goal.invariant-loop-row
invariant-loop-row l = Lined l.text l.pairs l.row l.count
