use mathlib.Core.Path.{◌≡◌}
use mathlib.Core.List.{List}
use Rattle.words.specs.declared.symbols.Scanned.{Scanned}
use Rattle.grammar.specs.Trees.{Variable}
use Rattle.grammar.specs.Formulas.{enough}
use Rattle.skimming.specs.bridge.Remaining.{weight}
use Rattle.statements.specs.Statements.{listed, names_at}
use Rattle.machine.specs.bridge.Holding.{state_of}
use Rattle.feeding.specs.bridge.Taking.{Feedable}
use Rattle.feeding.specs.bridge.Giving.{Listed, Sets}
use Rattle.feeding.proofs.Filling.{Fills}
use Rattle.feeding.proofs.reading.read.Given as goal

abbrev pub invariant-loop-name : goal.invariant-loop-name
invariant-loop-name l = Listed l.line l.target
    × (Feedable l.text l.m.feed
    × (Sets (state_of l.initial.m l.initial.tables) l.initial.space (state_of l.m l.tables) l.space
    × ((vs : List Variable) (u : Scanned) → names_at (enough l.line) l.line l.initial.target ≡ listed vs u
    → Fills l.text l.line vs u (state_of l.initial.m l.initial.tables) l.initial.space (state_of l.m l.tables) l.target l.space)))

abbrev pub decreases-loop-name : goal.decreases-loop-name
decreases-loop-name l = weight l.line l.target
