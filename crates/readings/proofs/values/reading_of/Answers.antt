-- The value is signed and exact, and is held by the kind of number that the rule gives (`made`); its bits denote it (`and_exact`).
use mathlib.Core.Path.{sym, ap, ◌∙◌}
use mathlib.Core.Logic.{inl, inr}
use native.Mathlib.Omega.{arith}
use lib.Ieee.{of_bits}
use Rattle.readings.specs.Values.{reading_of}
use Rattle.readings.proofs.Made.{Made, made, zeroth}
use Rattle.readings.proofs.Rules.{and_exact}
use Rattle.readings.proofs.values.reading_of.Goals as goal
use Rattle.readings.proofs.values.reading_of.Goals.{then-high-ge128, else-high-ge128}

pub returns-then-exponent-eq0-clause-denotes : goal.returns-then-exponent-eq0-clause-denotes
unfolding of_bits
returns-then-exponent-eq0-clause-denotes c = (and_exact c.args.low c.args.middle c.args.high c.args.exponent (omega arith) (omega arith) (omega arith) (omega arith)
    (zeroth c.args.low c.args.middle c.args.high ∙ ap (reading_of c.args.low c.args.middle c.args.high) (sym c.if-exponent-eq0.true))).1

pub returns-then-exponent-eq0-clause-value : goal.returns-then-exponent-eq0-clause-value
unfolding of_bits
returns-then-exponent-eq0-clause-value c = (and_exact c.args.low c.args.middle c.args.high c.args.exponent (omega arith) (omega arith) (omega arith) (omega arith)
    (zeroth c.args.low c.args.middle c.args.high ∙ ap (reading_of c.args.low c.args.middle c.args.high) (sym c.if-exponent-eq0.true))).0

pub float_to_float-narrow : goal.float_to_float-narrow
float_to_float-narrow c =
    let made_so : Made c.args.low c.args.middle c.args.high c.args.exponent c.if-high-ge128.value c.single_holds.result = made c.args.low c.args.middle c.args.high c.args.exponent c.mantissa_of-mantissa.result c.scaled-size.result c.if-high-ge128.value
    c.single_holds.result c.if-exponent-eq0.false c.mantissa_of-mantissa.ensures.value c.scaled-size.ensures
    c.single_holds.ensures ((elim c.if-high-ge128.branch [
      | then-high-ge128 w ↦ inl (w.if-high-ge128.true, w.value-is)
      | else-high-ge128 w ↦ inr (w.if-high-ge128.false, w.value-is)
    ])) in
    (made_so).cast c.if-single_holds.true

pub returns-then-single_holds-clause-denotes : goal.returns-then-single_holds-clause-denotes
returns-then-single_holds-clause-denotes c = let made_so : Made c.args.low c.args.middle c.args.high c.args.exponent c.if-high-ge128.value c.single_holds.result = made c.args.low c.args.middle c.args.high c.args.exponent c.mantissa_of-mantissa.result c.scaled-size.result c.if-high-ge128.value
    c.single_holds.result c.if-exponent-eq0.false c.mantissa_of-mantissa.ensures.value c.scaled-size.ensures
    c.single_holds.ensures ((elim c.if-high-ge128.branch [
      | then-high-ge128 w ↦ inl (w.if-high-ge128.true, w.value-is)
      | else-high-ge128 w ↦ inr (w.if-high-ge128.false, w.value-is)
    ])) in
    (and_exact c.args.low c.args.middle c.args.high c.args.exponent (omega arith) (omega arith) (omega arith) (omega arith)
    ((made_so).single c.if-single_holds.true)).1

pub returns-then-single_holds-clause-value : goal.returns-then-single_holds-clause-value
returns-then-single_holds-clause-value c = let made_so : Made c.args.low c.args.middle c.args.high c.args.exponent c.if-high-ge128.value c.single_holds.result = made c.args.low c.args.middle c.args.high c.args.exponent c.mantissa_of-mantissa.result c.scaled-size.result c.if-high-ge128.value
    c.single_holds.result c.if-exponent-eq0.false c.mantissa_of-mantissa.ensures.value c.scaled-size.ensures
    c.single_holds.ensures ((elim c.if-high-ge128.branch [
      | then-high-ge128 w ↦ inl (w.if-high-ge128.true, w.value-is)
      | else-high-ge128 w ↦ inr (w.if-high-ge128.false, w.value-is)
    ])) in
    (and_exact c.args.low c.args.middle c.args.high c.args.exponent (omega arith) (omega arith) (omega arith) (omega arith)
    ((made_so).single c.if-single_holds.true)).0

pub returns-clause-denotes : goal.returns-clause-denotes
returns-clause-denotes c = let made_so : Made c.args.low c.args.middle c.args.high c.args.exponent c.if-high-ge128.value c.single_holds.result = made c.args.low c.args.middle c.args.high c.args.exponent c.mantissa_of-mantissa.result c.scaled-size.result c.if-high-ge128.value
    c.single_holds.result c.if-exponent-eq0.false c.mantissa_of-mantissa.ensures.value c.scaled-size.ensures
    c.single_holds.ensures ((elim c.if-high-ge128.branch [
      | then-high-ge128 w ↦ inl (w.if-high-ge128.true, w.value-is)
      | else-high-ge128 w ↦ inr (w.if-high-ge128.false, w.value-is)
    ])) in
    (and_exact c.args.low c.args.middle c.args.high c.args.exponent (omega arith) (omega arith) (omega arith) (omega arith)
    ((made_so).double c.if-single_holds.false)).1

pub returns-clause-value : goal.returns-clause-value
returns-clause-value c = let made_so : Made c.args.low c.args.middle c.args.high c.args.exponent c.if-high-ge128.value c.single_holds.result = made c.args.low c.args.middle c.args.high c.args.exponent c.mantissa_of-mantissa.result c.scaled-size.result c.if-high-ge128.value
    c.single_holds.result c.if-exponent-eq0.false c.mantissa_of-mantissa.ensures.value c.scaled-size.ensures
    c.single_holds.ensures ((elim c.if-high-ge128.branch [
      | then-high-ge128 w ↦ inl (w.if-high-ge128.true, w.value-is)
      | else-high-ge128 w ↦ inr (w.if-high-ge128.false, w.value-is)
    ])) in
    (and_exact c.args.low c.args.middle c.args.high c.args.exponent (omega arith) (omega arith) (omega arith) (omega arith)
    ((made_so).double c.if-single_holds.false)).0
