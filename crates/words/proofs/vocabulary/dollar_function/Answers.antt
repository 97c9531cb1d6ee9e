-- Each arm is a word of the table; in the last, the number is none of theirs.
use mathlib.Core.Path.{sym}
use mathlib.Core.List.{[]}
use Rattle.whole.specs.Bytes.{bytes}
use Rattle.words.specs.Vocabulary.{dollar_functions}
use Rattle.words.specs.bridge.Packed.{packed, unpacked_in}
use Rattle.words.proofs.Packing.{none_packed}
use Rattle.words.proofs.vocabulary.dollar_function.Goals as goal

pub returns-in_default : goal.returns-in_default
unfolding packed unpacked_in bytes
returns-in_default c = sym (none_packed _ dollar_functions [] c.in_default.in_default-own.rest)
