use borrow.Author.Tests.{lt-ltb, le-ltb}
use Rattle.control.proofs.looping.word_at.Goals as goal

pub returns-then-slot-lt-MOST : goal.returns-then-slot-lt-MOST
returns-then-slot-lt-MOST c = rw (lt-ltb _ _ c.if-slot-lt-MOST.true)

pub returns-else-slot-lt-MOST : goal.returns-else-slot-lt-MOST
returns-else-slot-lt-MOST c = rw (le-ltb _ _ c.if-slot-lt-MOST.false)
