-- Rests on: the length is tested as the definition tests it.
use borrow.Author.Tests.{lt-ltb, le-ltb}
use Rattle.whole.specs.Texts.{longest_string, with_byte}
use Rattle.whole.proofs.texts.Text.put.Goals as goal

pub returns-then-at-lt-LONGEST : goal.returns-then-at-lt-LONGEST
unfolding with_byte
returns-then-at-lt-LONGEST c = rw (c.from-at.ensures, lt-ltb c.args.self.len longest_string (rw c.from-at.ensures at c.if-at-lt-LONGEST.true))

pub returns-else-at-lt-LONGEST : goal.returns-else-at-lt-LONGEST
unfolding with_byte
returns-else-at-lt-LONGEST c = rw (le-ltb c.args.self.len longest_string (rw c.from-at.ensures at c.if-at-lt-LONGEST.false))
