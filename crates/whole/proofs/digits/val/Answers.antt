-- Rests on: what stands first after the blanks says which digits are read, and what sign they have.
use mathlib.Core.Path.{refl, sym, ◌∙◌}
use native.Mathlib.Omega.{arith}
use Rattle.whole.specs.Bytes.{is}
use Rattle.whole.proofs.Reading.{leading_inside, part_from, signed_minus, signed_plus, unsigned, worth_read, val_rest}
use Rattle.whole.proofs.digits.val.Goals as goal
use Rattle.whole.proofs.digits.val.Goals.{in_default-via-then-rest-lt1, in_default-via-else-rest-lt1+in_default-1}

pub slice_bounds-rest-start : goal.slice_bounds-rest-start
slice_bounds-rest-start c = rw c.leading_blanks-start.ensures (leading_inside (is " ") c.args.bytes.now)

pub slice_bounds-rest-count : goal.slice_bounds-rest-count
slice_bounds-rest-count c = rw c.leading_blanks-start.ensures (leading_inside (is " ") c.args.bytes.now)

pub returns-in-45 : goal.returns-in-45
returns-in-45 c =
    c.below_zero.ensures _ (worth_read _ c.leading_digits.ensures (part_from _ 1))
    ∙ sym (val_rest _ _ c.leading_blanks-start.ensures ∙ signed_minus _ c.in-45.len_at_least (omega arith))

pub returns-in-43 : goal.returns-in-43
returns-in-43 c =
    c.from_zero.ensures _ (worth_read _ c.leading_digits-in-43.ensures (part_from _ 1))
    ∙ sym (val_rest _ _ c.leading_blanks-start.ensures ∙ signed_plus _ c.in-43.len_at_least (omega arith))

pub returns-in_default : goal.returns-in_default
returns-in_default c =
    c.from_zero-in_default.ensures _ (worth_read _ c.leading_digits-in_default.ensures refl)
    ∙ sym (val_rest _ _ c.leading_blanks-start.ensures
    ∙ unsigned _
    (λ h e. elim c.in_default.branch [ in_default-via-then-rest-lt1 w ↦ grind arith | in_default-via-else-rest-lt1+in_default-1 w ↦ grind arith ])
    (λ h e. elim c.in_default.branch [ in_default-via-then-rest-lt1 w ↦ grind arith | in_default-via-else-rest-lt1+in_default-1 w ↦ grind arith ]))
