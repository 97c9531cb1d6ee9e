use mathlib.Core.List.{List}
use Prim.Native.Nat.{ℕ, ◌+◌}
use Rattle.words.specs.declared.symbols.Scanned.{Scanned}
use Rattle.grammar.specs.Trees.{Formula}
use Rattle.skimming.specs.bridge.Remaining.{weight}
use Rattle.formulas.proofs.Climbing.{heft, Climbing}
use Rattle.formulas.proofs.Listing.{Listing}
use Rattle.formulas.proofs.evaluating.+arguments_formula_operand.Given as goal

abbrev pub decreases-arguments : goal.decreases-arguments
decreases-arguments l = weight l.line.now l.ahead + 3

abbrev pub invariant-arguments-loop-all : goal.invariant-arguments-loop-all
invariant-arguments-loop-all l = (w : ℕ) (before : List ℕ) (f : Formula) (u : Scanned)
    → Listing l.line l.tables l.function l.three l.used.0 w f u before l.initial.given l.initial.here l.initial.space
    → Listing l.line l.tables l.function l.three l.used.0 w f u before l.given l.here l.space

abbrev pub decreases-arguments-loop-all : goal.decreases-arguments-loop-all
decreases-arguments-loop-all l = weight l.line l.here

abbrev pub decreases-formula : goal.decreases-formula
decreases-formula l = weight l.line.now l.ahead + 2

abbrev pub invariant-formula-loop-operator : goal.invariant-formula-loop-operator
invariant-formula-loop-operator l = (w : ℕ) (before : List ℕ) (f : Formula) (u : Scanned)
    → Climbing l.line l.tables l.level l.used.0 w f u before l.initial.left l.initial.space
    → Climbing l.line l.tables l.level l.used.0 w f u before l.left l.space

abbrev pub decreases-formula-loop-operator : goal.decreases-formula-loop-operator
decreases-formula-loop-operator l = heft l.line l.left

abbrev pub decreases-operand : goal.decreases-operand
decreases-operand l = weight l.line.now l.ahead + 1
