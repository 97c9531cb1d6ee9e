-- Rests on: the 16 bits read as signed are the word's number, and that fits 32 bits.
use mathlib.Core.Path.{◌≡◌, ◌∙◌}
use Prim.Native.Nat.{◌<◌}
use native.Mathlib.Omega.{arith}
use lib.Signed.{mag}
use Rattle.whole.specs.Whole.{num}
use Rattle.whole.proofs.Numbers.{num_small}
use Rattle.whole.proofs.Sizes.{back_is, signed_back, signed_num}
use Rattle.whole.proofs.arithmetic.number.Goals as goal

pub returns : goal.returns
returns c =
    let small : mag (num c.args.word) < 32768 = num_small c.args.word c.ranges.word.fits in
    let told : c.cast_signed.result ≡ num c.args.word = c.cast_signed.ensures ∙ signed_num c.args.word c.ranges.word.fits in
    rw (c.from.ensures, told, signed_back (num c.args.word) small) (back_is (num c.args.word) (omega arith))
