use mathlib.Core.Path.{◌≡◌}
use Rattle.grammar.specs.Formulas.{enough}
use Rattle.skimming.specs.bridge.Remaining.{weight}
use Rattle.statements.specs.Statements.{names_at, read_at}
use Rattle.statements.specs.bridge.Answers.{begun_answer}
use Rattle.statements.proofs.Naming.{names_read}
use Rattle.statements.proofs.reading.read.Given as goal

abbrev pub invariant-loop-next : goal.invariant-loop-next
invariant-loop-next l = begun_answer (read_at l.line l.initial.here) ≡ names_read (names_at (enough l.line) l.line l.here)

abbrev pub decreases-loop-next : goal.decreases-loop-next
decreases-loop-next l = weight l.line l.here
