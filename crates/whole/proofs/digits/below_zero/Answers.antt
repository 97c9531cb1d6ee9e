-- Rests on: a magnitude tells the value, or that it is too large.
use mathlib.Core.Path.{sym}
use native.Mathlib.Omega.{arith}
use Rattle.whole.proofs.Numbers.{fit_minus, fit_minus_out}
use Rattle.whole.proofs.Reading.{value_in, value_out}
use Rattle.whole.proofs.digits.below_zero.Goals as goal

pub returns-in-Some : goal.returns-in-Some
returns-in-Some c n e = rw (value_in n _ c.in-Some.is e) (sym (fit_minus _ _ (omega arith) c.wrapping_neg.ensures (omega (arith, c.wrapping_neg.type_inv))))

pub returns-in_default : goal.returns-in_default
returns-in_default c n e = rw (value_in n _ c.in-Some.is e) (sym (fit_minus_out _ c.if-value-le32768.false))

pub returns-in_default-2 : goal.returns-in_default-2
returns-in_default-2 c n e = let h = value_out n c.in_default.is e in sym (fit_minus_out n (omega arith))
