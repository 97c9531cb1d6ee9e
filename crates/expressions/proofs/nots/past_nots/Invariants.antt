use mathlib.Core.Path.{◌≡◌}
use Rattle.grammar.specs.Formulas.{enough}
use Rattle.skimming.specs.bridge.Remaining.{weight}
use Rattle.expressions.specs.bridge.Nots.{nots_at, nots_of}
use Rattle.expressions.proofs.nots.past_nots.Given as goal

abbrev pub invariant-loop-here : goal.invariant-loop-here
invariant-loop-here l = nots_at (enough l.line) l.line l.odd l.here ≡ nots_of l.line l.initial.here

abbrev pub decreases-loop-here : goal.decreases-loop-here
decreases-loop-here l = weight l.line l.here
