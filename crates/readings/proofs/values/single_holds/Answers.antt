-- The rule of the paper, by the exponent.
use mathlib.Core.Path.{sym, ap, ◌∙◌}
use mathlib.Core.Bool.{false}
use Prim.Native.Nat.{ℕ}
use native.Mathlib.Omega.{arith}
use lib.Ieee.{binary32, fits}
use Rattle.readings.specs.Values.{exactly}
use Rattle.readings.proofs.Singles.{from_three, at_two, at_one}
use Rattle.readings.proofs.values.single_holds.Goals as goal

pub returns-in-1 : goal.returns-in-1
returns-in-1 c = at_one c.args.mantissa c.requires.1 ∙ ap (λ (e : ℕ). fits binary32 (exactly false c.args.mantissa e)) (sym c.in-1.is)

pub returns-in-2 : goal.returns-in-2
returns-in-2 c = at_two c.args.mantissa c.requires.1 ∙ ap (λ (e : ℕ). fits binary32 (exactly false c.args.mantissa e)) (sym c.in-2.is)

pub returns-in_default : goal.returns-in_default
returns-in_default c = from_three c.args.mantissa c.args.exponent c.requires.1 (omega arith) (omega arith)
