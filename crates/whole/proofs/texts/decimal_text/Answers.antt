-- Rests on: 16 bits are less than 10 ^ 5, so that five places hold them.
use mathlib.Core.Path.{◌∙◌}
use mathlib.Core.List.{[]}
use native.Mathlib.Omega.{arith}
use Rattle.whole.proofs.Numerals.{held_numeral}
use Rattle.whole.proofs.texts.decimal_text.Goals as goal

pub returns : goal.returns
returns c = rw (c.from.ensures, c.empty.ensures) at (c.put_numeral.ensures 4 (omega arith)) ∙ held_numeral 10 (omega arith) [] 5 c.args.value (omega arith)
