-- Each arm is a word of the table; in the last, the number is none of theirs.
use Rattle.whole.specs.Bytes.{bytes}
use Rattle.words.specs.Vocabulary.{statement_words, formula_words, reserved}
use Rattle.words.specs.bridge.Packed.{packed, unpacked_in}
use Rattle.words.proofs.Packing.{none_packed}
use Rattle.words.proofs.vocabulary.unpack.Goals as goal

pub returns-in_default : goal.returns-in_default
unfolding packed unpacked_in reserved bytes
returns-in_default c = rw (none_packed _ statement_words formula_words c.in_default.in_default-own.rest) c.formula_word.ensures
