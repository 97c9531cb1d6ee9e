-- To look a word up by its number is to look it up by its bytes; no reserved word has more than seven.
use mathlib.Core.Path.{sym}
use native.Mathlib.Omega.{arith}
use Rattle.words.proofs.Packing.{unpacked_word, long_word}
use Rattle.words.proofs.vocabulary.word_of.Goals as goal

pub returns-then-letters-gt-LONGEST : goal.returns-then-letters-gt-LONGEST
returns-then-letters-gt-LONGEST c = sym (long_word c.args.letters.now c.if-letters-gt-LONGEST.true)

pub returns : goal.returns
returns c = rw (c.unpack.ensures, c.pack.ensures) (unpacked_word c.args.letters.now (λ i. omega (arith, c.shared_slice_known-1.given i)))
