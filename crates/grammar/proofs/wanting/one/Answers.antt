-- The one list that there is, by its length.
use mathlib.Core.Path.{sym}
use borrow.Author.Tests.{ne_eqb}
use Rattle.grammar.specs.Functions.{any_for, form_for}
use Rattle.grammar.proofs.wanting.one.Goals as goal

pub returns-then-count-eq1 : goal.returns-then-count-eq1
unfolding any_for form_for
returns-then-count-eq1 c = rw c.if-count-eq1.true

pub returns-else-count-eq1 : goal.returns-else-count-eq1
unfolding any_for form_for
returns-else-count-eq1 c = rw (ne_eqb 1 c.args.count (λ e. c.if-count-eq1.false (sym e)))
