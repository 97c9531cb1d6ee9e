-- Rests on: 0 less the number of a word fits 32 bits.
use mathlib.Core.Path.{◌∙◌, ap}
use lib.Dec.{lit<}
use lib.IntN.{ℤ, pos, ◌-ℤ◌, +ℤ_idl}
use Rattle.whole.specs.Whole.{fit}
use Rattle.whole.proofs.Sizes.{Small, sub_small, Of, op_fits, op_ends}
use Rattle.whole.proofs.arithmetic.negative.Goals as goal

abbrev minus : ℤ → ℤ → ℤ
minus x y = pos 0 -ℤ x

minus_small : Small minus
minus_small x y p q = sub_small (pos 0) x (lit< tt) p

pub overflow_sub-number : goal.overflow_sub-number
overflow_sub-number c =
    let side : Of c.args.word c.number.result = record { fits = c.ranges.word; is = c.number.ensures } in
    op_fits (side, side) minus minus_small

pub returns : goal.returns
returns c =
    let side : Of c.args.word c.number.result = record { fits = c.ranges.word; is = c.number.ensures } in
    op_ends (side, side) minus minus_small c.fitted.ensures ∙ ap fit (+ℤ_idl _)
