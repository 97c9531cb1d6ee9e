-- Rests on: a magnitude tells the value, or that it is too large, and too large it stays.
use mathlib.Core.Path.{sym, ◌∙◌}
use native.Mathlib.Omega.{arith}
use Rattle.whole.proofs.Reading.{capped_out, capped_sum, value_in, value_out}
use Rattle.whole.proofs.digits.with_digit.Goals as goal

pub returns-in_err-magnitude : goal.returns-in_err-magnitude
returns-in_err-magnitude c n e = let h = value_out n c.in_err-magnitude.was e in
    c.from_residual.ensures ∙ sym (capped_out _ (omega arith))

pub returns-in_err-checked_mul : goal.returns-in_err-checked_mul
returns-in_err-checked_mul c n e = let v = value_in n _ c.in_ok-magnitude.was e in
    c.from_residual-in_err-checked_mul.ensures ∙ sym (capped_out _ (omega (arith, c.in_err-checked_mul.ensures)))

pub returns : goal.returns
returns c n e = let v = value_in n _ c.in_ok-magnitude.was e in
    let more = c.in_ok-checked_mul.ensures.1 in
    capped_sum _ _ (rw (v, ← more, ← c.from.ensures) c.checked_add.ensures)
