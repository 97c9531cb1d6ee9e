-- Rests on: the bytes passed are digits (`Passed`), and the magnitude is that of their value.
use mathlib.Core.Path.{◌≡◌, sym, ◌∙◌}
use native.Mathlib.Omega.{arith}
use lib.ListN.{length}
use Rattle.whole.specs.Digits.{is_digit, value_from}
use Rattle.whole.proofs.Reading.{passed_none, passed_more, ended_inside, ended_last, take_next, capped_in, value_more, digit_from, digits_read}
use Rattle.whole.proofs.digits.leading_digits.Goals as goal

pub loop-count-init : goal.loop-count-init
unfolding value_from
loop-count-init c = (passed_none is_digit _, sym (capped_in 0 (omega arith)))

pub returns-then-not-is_digit : goal.returns-then-not-is_digit
returns-then-not-is_digit c = let none = sym c.is_digit.ensures ∙ c.if-not-is_digit.true in
    digits_read _ _ _ (ended_inside is_digit _ _ c.loop-count-test.true none c.loop-count.invariant.0) c.loop-count.invariant.0 c.loop-count.invariant.1

pub overflow_sub-byte : goal.overflow_sub-byte
overflow_sub-byte c = digit_from _ (sym c.is_digit.ensures ∙ c.if-not-is_digit.false)

pub loop-count-preserved : goal.loop-count-preserved
loop-count-preserved c = let digit = sym c.is_digit.ensures ∙ c.if-not-is_digit.false in
    (passed_more is_digit _ _ c.loop-count-test.true digit c.loop-count.invariant.0, rw (take_next _ _ c.loop-count-test.true, value_more) (c.with_digit-magnitude.ensures _ c.loop-count.invariant.1))

pub returns : goal.returns
returns c = let all : c.loop-count.count ≡ length c.args.bytes.now = omega arith in
    rw (← all) (digits_read _ _ _ (ended_last is_digit _ _ (omega arith) c.loop-count.invariant.0) c.loop-count.invariant.0 c.loop-count.invariant.1)
