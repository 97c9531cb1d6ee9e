-- The one list that there is, by its length.
use mathlib.Core.Path.{sym}
use borrow.Author.Tests.{ne_eqb}
use Rattle.grammar.specs.Functions.{any_for, form_for}
use Rattle.grammar.proofs.wanting.two.Goals as goal

pub returns-then-count-eq2 : goal.returns-then-count-eq2
unfolding any_for form_for
returns-then-count-eq2 c = rw c.if-count-eq2.true

pub returns-else-count-eq2 : goal.returns-else-count-eq2
unfolding any_for form_for
returns-else-count-eq2 c = rw (ne_eqb 2 c.args.count (λ e. c.if-count-eq2.false (sym e)))
