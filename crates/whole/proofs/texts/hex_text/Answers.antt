-- Rests on: 16 bits are less than 16 ^ 4, so that four places hold them.
use mathlib.Core.Path.{◌∙◌}
use mathlib.Core.List.{[]}
use native.Mathlib.Omega.{arith}
use Rattle.whole.proofs.Numerals.{held_numeral}
use Rattle.whole.proofs.texts.hex_text.Goals as goal

pub returns : goal.returns
returns c = rw (c.from.ensures, c.empty.ensures) at (c.put_numeral.ensures 3 (omega arith)) ∙ held_numeral 16 (omega arith) [] 4 c.args.word (omega arith)
