-- Rests on: the 16 bits read as signed are the word's number, and the sign's bits are the sign's word.
use mathlib.Core.Path.{◌≡◌, ◌∙◌}
use Rattle.whole.specs.Whole.{num, sign_of}
use Rattle.whole.proofs.Numbers.{num_small}
use Rattle.whole.proofs.Sizes.{signed_back, signed_num, signed_word, sign_back, sign_same}
use Rattle.whole.proofs.arithmetic.sign.Goals as goal

pub returns : goal.returns
returns c =
    let z = num c.args.word in
    let told : c.cast_signed.result ≡ z = c.cast_signed.ensures ∙ signed_num c.args.word c.ranges.word.fits in
    let same : c.signum.result ≡ sign_of z = rw (told, signed_back z (num_small c.args.word c.ranges.word.fits), sign_same z) at c.signum.ensures.value in
    rw (c.cast_unsigned.ensures, same, signed_back (sign_of z) (sign_back z), signed_word (sign_of z) (sign_back z))
