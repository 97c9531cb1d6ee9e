use borrow.Author.Tests.{le-leb, lt-leb}
use Rattle.turns.proofs.turning.push.Goals as goal

pub returns-then-machine-slot : goal.returns-then-machine-slot
returns-then-machine-slot c = λ tables. rw (c.fails.ensures, le-leb _ _ c.if-machine-slot.true)

pub returns : goal.returns
returns c = λ tables. rw (lt-leb _ _ c.if-machine-slot.false)
