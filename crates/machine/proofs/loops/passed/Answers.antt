-- By the step's sign.
use mathlib.Core.Path.{sym, ◌∙◌}
use Rattle.machine.proofs.Limits.{passed_down, passed_never, passed_up}
use Rattle.machine.proofs.loops.passed.Goals as goal

pub returns-then-is_less : goal.returns-then-is_less
returns-then-is_less c = c.is_less-then-is_less.ensures ∙ sym (passed_down _ _ _ (sym c.is_less.ensures ∙ c.if-is_less.true))

pub returns-then-step-eq0 : goal.returns-then-step-eq0
returns-then-step-eq0 c = sym (passed_never _ _ _ (sym c.is_less.ensures ∙ c.if-is_less.false) c.if-step-eq0.true)

pub returns : goal.returns
returns c = c.is_less-2.ensures
    ∙ sym (passed_up _ _ _ (sym c.is_less.ensures ∙ c.if-is_less.false) c.if-step-eq0.false)
