-- Each arm is a word of the table; in the last, the number is none of theirs.
use Rattle.whole.specs.Bytes.{bytes}
use Rattle.words.specs.Vocabulary.{plain_functions, dollar_functions}
use Rattle.words.specs.bridge.Packed.{packed, unpacked_in}
use Rattle.words.proofs.Packing.{none_packed}
use Rattle.words.proofs.vocabulary.function_word.Goals as goal

pub returns-in_default : goal.returns-in_default
unfolding packed unpacked_in bytes
returns-in_default c = rw (none_packed _ plain_functions dollar_functions c.in_default.in_default-own.rest) c.dollar_function.ensures
