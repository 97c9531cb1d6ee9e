-- The test is that of the law.
use mathlib.Core.Path.{sym, ◌∙◌}
use native.Mathlib.Omega.{arith}
use Rattle.formulas.proofs.Turning.{flips}
use Rattle.formulas.proofs.operands.turned.Goals as goal

pub returns-then-odd : goal.returns-then-odd
returns-then-odd c n e = c.complement.ensures ∙ sym (rw (sym e ∙ c.if-odd.true) at (flips n c.args.word (omega (arith, c.ranges))))

pub returns-else-odd : goal.returns-else-odd
returns-else-odd c n e = sym (rw (sym e ∙ c.if-odd.false) at (flips n c.args.word (omega (arith, c.ranges))))
