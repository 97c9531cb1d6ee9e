-- The first byte that is no blank tells which item it is; a quote is a byte of the line.
use borrow.Author.Tests.{ne_eqb}
use Rattle.items.specs.Items.{item_at}
use Rattle.items.proofs.reading.item_at.Goals as goal

pub returns-then-byte_at-eq34 : goal.returns-then-byte_at-eq34
unfolding item_at
returns-then-byte_at-eq34 c = rw (← c.run_end-start.ensures, ← c.byte_at.ensures, c.if-byte_at-eq34.true) c.quoted_at.ensures

pub returns : goal.returns
unfolding item_at
returns c = rw (← c.run_end-start.ensures, ← c.byte_at.ensures, ne_eqb _ 34 c.if-byte_at-eq34.false) c.bare_at.ensures
