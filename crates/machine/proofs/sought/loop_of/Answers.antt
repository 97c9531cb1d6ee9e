use borrow.Author.Tests.{le-ltb, lt-ltb}
use Rattle.machine.proofs.sought.loop_of.Goals as goal

pub returns-in-None : goal.returns-in-None
returns-in-None c = rw (← c.slot_of.ensures, c.in-None.is)

pub returns-then-slot-numbers : goal.returns-then-slot-numbers
returns-then-slot-numbers c = rw (← c.slot_of.ensures, c.in-Some.is, lt-ltb _ _ c.if-slot-numbers.true)

pub returns-else-slot-numbers : goal.returns-else-slot-numbers
returns-else-slot-numbers c = rw (← c.slot_of.ensures, c.in-Some.is, le-ltb _ _ c.if-slot-numbers.false)
