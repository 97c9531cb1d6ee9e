-- Rests on: an operation on the numbers of two words fits 32 bits, so that the code's is the specification's.
use borrow.Author.Tests.{ne_eqb}
use lib.IntN.{◌+ℤ◌, ◌-ℤ◌, ◌*ℤ◌}
use lib.Signed.{quot_z}
use Rattle.whole.proofs.Sizes.{Of, read_back, op_fits, op_ends, call_ends, divisor, add_small, sub_small, mul_small, quot_small}
use Rattle.whole.proofs.arithmetic.apply.Goals as goal

pub overflow_mul-x : goal.overflow_mul-x
overflow_mul-x c =
    let sides : Of c.args.left c.number-x.result × Of c.args.right c.number-y.result = (
      record { fits = c.ranges.left; is = c.number-x.ensures },
      record { fits = c.ranges.right; is = c.number-y.ensures },
    ) in
    op_fits (sides) ◌*ℤ◌ mul_small

pub quotient-requires : goal.quotient-requires
quotient-requires c =
    let sides : Of c.args.left c.number-x.result × Of c.args.right c.number-y.result = (
      record { fits = c.ranges.left; is = c.number-x.ensures },
      record { fits = c.ranges.right; is = c.number-y.ensures },
    ) in
    let s = read_back (sides) in (divisor s.1 c.if-right-eq0.false, op_fits s quot_z quot_small)

pub rest-requires : goal.rest-requires
rest-requires c =
    let sides : Of c.args.left c.number-x.result × Of c.args.right c.number-y.result = (
      record { fits = c.ranges.left; is = c.number-x.ensures },
      record { fits = c.ranges.right; is = c.number-y.ensures },
    ) in
    let s = read_back (sides) in (divisor s.1 c.if-right-eq0-2.false, op_fits s quot_z quot_small)

pub overflow_add-x : goal.overflow_add-x
overflow_add-x c =
    let sides : Of c.args.left c.number-x.result × Of c.args.right c.number-y.result = (
      record { fits = c.ranges.left; is = c.number-x.ensures },
      record { fits = c.ranges.right; is = c.number-y.ensures },
    ) in
    op_fits (sides) ◌+ℤ◌ add_small

pub overflow_sub-x : goal.overflow_sub-x
overflow_sub-x c =
    let sides : Of c.args.left c.number-x.result × Of c.args.right c.number-y.result = (
      record { fits = c.ranges.left; is = c.number-x.ensures },
      record { fits = c.ranges.right; is = c.number-y.ensures },
    ) in
    op_fits (sides) ◌-ℤ◌ sub_small

pub returns-in-Multiply : goal.returns-in-Multiply
returns-in-Multiply c =
    let sides : Of c.args.left c.number-x.result × Of c.args.right c.number-y.result = (
      record { fits = c.ranges.left; is = c.number-x.ensures },
      record { fits = c.ranges.right; is = c.number-y.ensures },
    ) in
    rw c.in-Multiply.is (op_ends (sides) ◌*ℤ◌ mul_small c.fitted.ensures)

pub returns-else-right-eq0 : goal.returns-else-right-eq0
returns-else-right-eq0 c =
    let sides : Of c.args.left c.number-x.result × Of c.args.right c.number-y.result = (
      record { fits = c.ranges.left; is = c.number-x.ensures },
      record { fits = c.ranges.right; is = c.number-y.ensures },
    ) in
    rw (c.in-Divide.is, ne_eqb _ 0 c.if-right-eq0.false)
    (call_ends (read_back (sides)) quot_z quot_small c.quotient.ensures c.fitted-else-right-eq0.ensures)

pub returns-in-Add : goal.returns-in-Add
returns-in-Add c =
    let sides : Of c.args.left c.number-x.result × Of c.args.right c.number-y.result = (
      record { fits = c.ranges.left; is = c.number-x.ensures },
      record { fits = c.ranges.right; is = c.number-y.ensures },
    ) in
    rw c.in-Add.is (op_ends (sides) ◌+ℤ◌ add_small c.fitted-in-Add.ensures)

pub returns-in-Subtract : goal.returns-in-Subtract
returns-in-Subtract c =
    let sides : Of c.args.left c.number-x.result × Of c.args.right c.number-y.result = (
      record { fits = c.ranges.left; is = c.number-x.ensures },
      record { fits = c.ranges.right; is = c.number-y.ensures },
    ) in
    rw c.in-Subtract.is (op_ends (sides) ◌-ℤ◌ sub_small c.fitted-in-Subtract.ensures)
