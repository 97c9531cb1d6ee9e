-- The test of the buffer's length decides.
use mathlib.Core.Path.{sym, ◌∙◌}
use Rattle.serial.proofs.Steps.{begun_short, begun_ready}
use Rattle.serial.proofs.receiving.begin.Goals as goal

pub returns-then-is_short : goal.returns-then-is_short
returns-then-is_short c = sym (begun_short _ (sym c.is_short.ensures ∙ c.if-is_short.true))

pub returns : goal.returns
returns c = sym (begun_ready _ (sym c.is_short.ensures ∙ c.if-is_short.false))
