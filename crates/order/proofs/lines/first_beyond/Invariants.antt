use mathlib.Core.Path.{◌≡◌}
use Rattle.grammar.specs.Trees.{Part}
use Rattle.statements.specs.Parts.{parts_of}
use Rattle.statements.proofs.Parts.{weight_at}
use Rattle.reader.specs.Lines.{holds, judgement}
use Rattle.machine.specs.Order.{beyond}
use Rattle.order.proofs.Rising.{Seeks}
use Rattle.order.proofs.lines.first_beyond.Given as goal

abbrev pub invariant-loop-here : goal.invariant-loop-here
invariant-loop-here l = (part : Part) → judgement l.line ≡ holds part → Seeks l.line l.limit l.here.0 (beyond l.limit (parts_of part))

abbrev pub decreases-loop-here : goal.decreases-loop-here
decreases-loop-here l = weight_at l.line l.here.0
