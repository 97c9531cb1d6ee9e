-- How large the levels of operators are.
use Prim.Native.Nat.{◌≤◌}
use native.Mathlib.Omega.{arith}
use Rattle.whole.specs.declared.arithmetic.Operator.{Operator}
use Rattle.whole.specs.declared.arithmetic.Operator.TheVariants as operator
use Rattle.grammar.specs.Formulas.{level_of}

-- an operator's level, and one more, is a small number
pub level_small : (op : Operator) → level_of op ≤ 10
level_small operator.Imp = omega arith
level_small operator.Eqv = omega arith
level_small operator.Xor = omega arith
level_small operator.Or = omega arith
level_small operator.And = omega arith
level_small operator.Equal = omega arith
level_small operator.Unequal = omega arith
level_small operator.Less = omega arith
level_small operator.Greater = omega arith
level_small operator.AtMost = omega arith
level_small operator.AtLeast = omega arith
level_small operator.Add = omega arith
level_small operator.Subtract = omega arith
level_small operator.Modulo = omega arith
level_small operator.Divide = omega arith
level_small operator.Multiply = omega arith
