-- Where the value is over the limit, that of all digits is too (`front_value`).
use Rattle.std.proofs.Common.{◌+◌, refl, arith}
use Rattle.whole.specs.Digits.{value_from}
use Rattle.console.proofs.Values.{front_value, next_value, whole_value}
use Rattle.console.proofs.arguments.value_up_to.Goals as goal

pub loop-digit-init : goal.loop-digit-init
unfolding value_from
loop-digit-init c = (omega arith, refl)

pub returns-then-from-more : goal.returns-then-from-more
returns-then-from-more c =
    let i = c.loop-digit.digit-index in
    let next = next_value c.args.digits.now i c.loop-digit.value c.loop-digit-test.true c.loop-digit.invariant.1 in
    omega (arith, next, front_value c.args.digits.now (i + 1), c.from.ensures, c.saturating_sub.ensures, c.from-in-loop-digit.ensures, c.from-in-loop-digit-2.ensures)

pub loop-digit-preserved : goal.loop-digit-preserved
loop-digit-preserved c =
    let next = next_value c.args.digits.now c.loop-digit.digit-index c.loop-digit.value c.loop-digit-test.true c.loop-digit.invariant.1 in (
      omega (arith, c.from.ensures, c.saturating_sub.ensures, c.from-in-loop-digit.ensures, c.from-in-loop-digit-2.ensures),
      rw (c.from.ensures, c.from-in-loop-digit.ensures, c.saturating_sub.ensures) next,
    )

pub returns : goal.returns
returns c = (c.loop-digit.invariant.0, whole_value c.args.digits.now _ _ c.loop-digit-test.false c.loop-digit.invariant.1)
