-- Wider, a word's number is the same number, in two's complement.
use mathlib.Core.Path.{◌≡◌, refl, ◌∙◌}
use Prim.Native.Nat.{◌<◌}
use native.Mathlib.Omega.{arith}
use lib.IntN.{ℤ, pos, negsuc}
use lib.Signed.{mag}
use mir.Syntax.{w64}
use mir.Val.{to_z, of_z}
use mir.Facts.{to_z-of_z}
use Rattle.whole.specs.Whole.{num}
use Rattle.whole.proofs.Numbers.{num_small}
use Rattle.whole.proofs.Sizes.{signed_num, signed_back}
use Rattle.host.specs.Answers.{extended_of}
use Rattle.host.proofs.answers.extended.Goals as goal

in_bits : (z : ℤ) → mag z < 32768 → of_z w64 z ≡ extended_of z
in_bits (pos n) h = refl
in_bits (negsuc n) h = omega arith

wide_back : (z : ℤ) → mag z < 32768 → to_z w64 (of_z w64 z) ≡ z
wide_back z h = to_z-of_z {w = w64} {z = z} (record { sfits = omega arith })

pub returns : goal.returns
returns c =
    let small : mag (num c.args.word) < 32768 = num_small c.args.word c.ranges.word.fits in
    let told : c.cast_signed.result ≡ num c.args.word = c.cast_signed.ensures ∙ signed_num c.args.word c.ranges.word.fits in
    let wide : c.from.result ≡ num c.args.word = c.from.ensures ∙ (rw told (signed_back (num c.args.word) small)) in
    c.cast_unsigned.ensures ∙ rw (wide, wide_back (num c.args.word) small) (in_bits (num c.args.word) small)
