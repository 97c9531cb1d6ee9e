use Prim.Native.Nat.{◌+◌, ◌≤◌}
use Rattle.std.specs.Prelude.{◌≡◌, Option, Some, true}
use Rattle.skimming.specs.bridge.Remaining.{weight}
use Rattle.scanner.specs.Tokens.{reads}
use Rattle.expressions.specs.declared.readers.FormulaRead.{FormulaRead}
use Rattle.expressions.proofs.Steps.{heft, FormulaMet, ClimbMet, CallMet, NextMet}
use Rattle.expressions.proofs.readers.+arguments_formula_inner_operand.Given as goal

abbrev pub decreases-arguments : goal.decreases-arguments
decreases-arguments l = weight l.line.now l.ahead + 2

-- what reads from here on reads from the opening parenthesis on, and begins with a token that reads
abbrev pub invariant-arguments-loop-argument : goal.invariant-arguments-loop-argument
invariant-arguments-loop-argument l = record {
  met : (r : Option FormulaRead) → NextMet l.room l.line l.function l.taken.sorts l.taken.deepest l.here r
      → CallMet (l.room + 1) l.line l.function l.fn.ahead r;
  near : weight l.line l.here ≤ weight l.line l.fn.ahead;
  sign : reads l.here.token ≡ true;
}

abbrev pub decreases-arguments-loop-argument : goal.decreases-arguments-loop-argument
decreases-arguments-loop-argument l = weight l.line l.here

abbrev pub decreases-formula : goal.decreases-formula
decreases-formula l = weight l.line.now l.ahead + 2

-- what is read where the left side was, is read from the formula's first token on
abbrev pub invariant-formula-loop-operator : goal.invariant-formula-loop-operator
invariant-formula-loop-operator l = record {
  met : (r : Option FormulaRead) → ClimbMet (l.room + 1) l.line l.level (Some l.left) r
      → FormulaMet (l.room + 1) l.line l.level l.fn.ahead r;
  near : heft l.line (Some l.left) ≤ weight l.line l.fn.ahead;
}

abbrev pub decreases-formula-loop-operator : goal.decreases-formula-loop-operator
decreases-formula-loop-operator l = heft l.line (Some l.left)

abbrev pub decreases-inner : goal.decreases-inner
decreases-inner l = weight l.line.now l.ahead + 3

abbrev pub decreases-operand : goal.decreases-operand
decreases-operand l = weight l.line.now l.ahead + 1
