-- The comparison's word is other than 0 just where it holds.
use mathlib.Core.Path.{sym, ap, ◌∙◌}
use Rattle.machine.proofs.Limits.{holds, says}
use Rattle.machine.proofs.loops.is_less.Goals as goal

pub returns-in-Ok : goal.returns-in-Ok
returns-in-Ok c = sym (ap holds c.in-Ok.is) ∙ ap holds c.apply.ensures ∙ says _

pub returns-in-Err : goal.returns-in-Err
returns-in-Err c = sym (ap holds c.in-Err.is) ∙ ap holds c.apply.ensures ∙ says _
