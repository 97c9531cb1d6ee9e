-- Rests on nothing but its two cases.
use borrow.Author.Tests.{lt-ltb, le-ltb}
use Rattle.whole.specs.Texts.{digit_byte}
use Rattle.whole.proofs.texts.digit_byte.Goals as goal

pub returns-then-digit-lt10 : goal.returns-then-digit-lt10
unfolding digit_byte
returns-then-digit-lt10 c = rw (lt-ltb _ _ c.if-digit-lt10.true)

pub returns-else-digit-lt10 : goal.returns-else-digit-lt10
unfolding digit_byte
returns-else-digit-lt10 c = rw (le-ltb _ _ c.if-digit-lt10.false)
