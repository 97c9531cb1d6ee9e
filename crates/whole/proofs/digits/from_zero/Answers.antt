-- Rests on: a magnitude tells the value, or that it is too large.
use mathlib.Core.Path.{sym}
use lib.IntN.{pos}
use native.Mathlib.Omega.{arith}
use Rattle.whole.proofs.Numbers.{fit_in, fit_out}
use Rattle.whole.proofs.Reading.{value_in, value_out}
use Rattle.whole.proofs.digits.from_zero.Goals as goal

pub returns-in-Some : goal.returns-in-Some
returns-in-Some c n e = rw (value_in n _ c.in-Some.is e) (sym (fit_in (pos _) (omega arith)))

pub returns-in_default : goal.returns-in_default
returns-in_default c n e = rw (value_in n _ c.in-Some.is e) (sym (fit_out (pos _) (omega arith)))

pub returns-in_default-2 : goal.returns-in_default-2
returns-in_default-2 c n e = let h = value_out n c.in_default.is e in sym (fit_out (pos n) (omega arith))
