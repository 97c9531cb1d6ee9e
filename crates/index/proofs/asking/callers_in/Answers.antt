-- The room has the lines so far that name the line, and the pairs from the one reached on tell the others.
use borrow.Author.Rules.{rules}
use Rattle.index.proofs.Calling.{none_called, callers_all, called_more, all_called}
use Rattle.index.proofs.asking.callers_in.Goals as goal

pub loop-i-init : goal.loop-i-init
loop-i-init c = none_called _ _ _ _

pub loop-i-preserved : goal.loop-i-preserved
loop-i-preserved c = called_more c.loop-i.invariant _ (search rules) c.loop-i-test.true c.put_if-count.ensures.callers_after c.put_if-count.ensures.value

pub returns : goal.returns
returns c =
    let all = all_called c.loop-i.invariant c.loop-i-test.false (callers_all c.args.index.now c.args.number c.at_most-i-end.result c.at_most-i-end.ensures) in
    record { value = all.0; callers_after = all.1 }
