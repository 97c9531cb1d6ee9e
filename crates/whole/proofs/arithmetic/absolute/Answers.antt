-- Rests on: the number of a word fits 16 bits, so that what is left without its sign fits 32.
use Prim.Native.Nat.{◌<◌}
use native.Mathlib.Omega.{arith}
use lib.Signed.{mag}
use Rattle.whole.specs.Whole.{num}
use Rattle.whole.proofs.Numbers.{num_small}
use Rattle.whole.proofs.Sizes.{back_is, mag_neg}
use Rattle.whole.proofs.arithmetic.absolute.Goals as goal

pub abs-requires : goal.abs-requires
abs-requires c =
    let small : mag (num c.args.word) < 32768 = num_small c.args.word c.ranges.word.fits in
    rw (c.number.ensures, back_is (num c.args.word) (omega arith)) (record { sfits = omega (arith, mag_neg (num c.args.word)) })
