use mathlib.Core.Path.{◌≡◌}
use Rattle.grammar.specs.Formulas.{enough}
use Rattle.skimming.specs.bridge.Remaining.{weight}
use Rattle.statements.specs.Statements.{items_at, print_at}
use Rattle.statements.specs.bridge.Answers.{begun_answer}
use Rattle.statements.proofs.Printing.{continued}
use Rattle.statements.proofs.reading.print.Given as goal

abbrev pub invariant-loop-here : goal.invariant-loop-here
invariant-loop-here l = begun_answer (print_at l.line l.initial.here) ≡ continued l.depth l.typed (items_at (enough l.line) l.line l.here)

abbrev pub decreases-loop-here : goal.decreases-loop-here
decreases-loop-here l = weight l.line l.here
