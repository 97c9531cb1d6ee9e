use borrow.Author.Tests.{eq-eqb, ne_eqb}
use Rattle.machine.proofs.records.passes.Goals as goal

pub returns-then-entry-eq-COUNT : goal.returns-then-entry-eq-COUNT
returns-then-entry-eq-COUNT c = rw (eq-eqb _ 2 c.if-entry-eq-COUNT.true)

pub returns : goal.returns
returns c = rw (ne_eqb _ 2 c.if-entry-eq-COUNT.false)
