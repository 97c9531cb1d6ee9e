use mathlib.Core.Path.{◌≡◌}
use mathlib.Core.List.{List}
use Rattle.words.specs.declared.symbols.Scanned.{Scanned}
use Rattle.grammar.specs.Trees.{Item}
use Rattle.statements.specs.Statements.{items}
use Rattle.statements.specs.bridge.Answers.{items_of}
use Rattle.skimming.specs.bridge.Remaining.{weight}
use Rattle.dialogue.proofs.Prints.{Prints}
use Rattle.machine.specs.bridge.Holding.{state_of}
use Rattle.dialogue.proofs.outputting.print.Given as goal

abbrev pub invariant-loop-room : goal.invariant-loop-room
invariant-loop-room l = (all : List Item) (end : Scanned) → items_of l.line l.initial.item ≡ items all end
    → Prints l.line all end (state_of l.initial.m l.tables) l.initial.space l.initial.room (state_of l.m l.tables) l.item l.quiet l.space l.room

abbrev pub decreases-loop-room : goal.decreases-loop-room
decreases-loop-room l = weight l.line l.item
