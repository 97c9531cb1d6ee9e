-- The bytes of a text are what it holds (`held_front`).
use Rattle.whole.proofs.Numerals.{held_front}
use Rattle.console.proofs.lines.write_text.Goals as goal

pub returns-clause-said : goal.returns-clause-said
returns-clause-said g c l e = rw (c.from.ensures, held_front l e) at c.write.ensures
