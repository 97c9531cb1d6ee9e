-- The value so far is exact: the mantissa times the powers that are done (`first`, `step`).
use mathlib.Core.Path.{◌≡◌, ap, ◌∙◌}
use mathlib.Core.Bool.{false}
use Prim.Native.Nat.{◌+◌, ◌*◌, ◌/◌}
use native.Mathlib.Omega.{arith}
use lib.Ieee.{Float, binary64, mul, of_bits}
use Rattle.readings.specs.Values.{exactly}
use Rattle.readings.proofs.Products.{first, step}
use Rattle.readings.proofs.values.scaled.Goals as goal

pub sixteens-init : goal.sixteens-init
unfolding of_bits
sixteens-init c = first c.args.mantissa c.requires.0 c.requires.1

pub sixteens-preserved : goal.sixteens-preserved
unfolding of_bits
sixteens-preserved c =
    let done : 16 * c.sixteens.counter + 16 ≡ 16 * (c.sixteens.counter + 1) = omega arith in
    ap (λ (z : Float). mul binary64 z (of_bits binary64 0x40f0_0000_0000_0000)) c.sixteens.invariant
    ∙ step c.args.mantissa (16 * c.sixteens.counter) 16 c.requires.0 c.requires.1 (omega arith)
    ∙ ap (exactly false c.args.mantissa) done

pub ones-init : goal.ones-init
ones-init c =
    let done : 16 * c.sixteens.counter ≡ 16 * (c.args.exponent / 16) + 0 = omega arith in
    c.sixteens.invariant ∙ ap (exactly false c.args.mantissa) done

pub ones-preserved : goal.ones-preserved
unfolding of_bits
ones-preserved c =
    let done : 16 * (c.args.exponent / 16) + c.ones.counter + 1 ≡ 16 * (c.args.exponent / 16) + (c.ones.counter + 1) = omega arith in
    ap (λ (z : Float). mul binary64 z (of_bits binary64 0x4000_0000_0000_0000)) c.ones.invariant
    ∙ step c.args.mantissa (16 * (c.args.exponent / 16) + c.ones.counter) 1 c.requires.0 c.requires.1 (omega arith)
    ∙ ap (exactly false c.args.mantissa) done

pub returns : goal.returns
returns c =
    let done : 16 * (c.args.exponent / 16) + c.ones.counter ≡ c.args.exponent = omega arith in
    c.ones.invariant ∙ ap (exactly false c.args.mantissa) done
