-- Each arm is what the lists of arguments of its functions come to, whatever the count.
use mathlib.Core.Path.{sym}
use borrow.Author.Tests.{ne_eqb}
use Rattle.grammar.specs.Functions.{any_for, form_for}
use Rattle.grammar.proofs.wanting.wants.Goals as goal

pub returns-then-count-eq3 : goal.returns-then-count-eq3
unfolding any_for form_for
returns-then-count-eq3 c = rw (c.in-Mid.is, c.if-count-eq3.true)

pub returns-then-count-eq3-2 : goal.returns-then-count-eq3-2
unfolding any_for form_for
returns-then-count-eq3-2 c = rw (c.in-Instr.is, c.if-count-eq3-2.true)

-- and so many that it takes two or none
pub returns-else-count-eq3 : goal.returns-else-count-eq3
unfolding any_for form_for
returns-else-count-eq3 c = rw (c.in-Mid.is, ne_eqb 3 c.args.count (λ e. c.if-count-eq3.false (sym e))) c.two-in-Mid.ensures

pub returns-else-count-eq3-2 : goal.returns-else-count-eq3-2
unfolding any_for form_for
returns-else-count-eq3-2 c = rw (c.in-Instr.is, ne_eqb 3 c.args.count (λ e. c.if-count-eq3-2.false (sym e))) c.two-in-Instr.ensures
