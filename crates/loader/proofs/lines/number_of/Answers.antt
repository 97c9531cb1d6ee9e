-- Each case of `number_of`, by what `leading_digits` tells of the digits and their value.
use mathlib.Core.Path.{sym, ap, ap₂, ◌∙◌}
use mathlib.Core.Logic.{⊎_elim}
use native.Mathlib.Omega.{arith}
use Rattle.std.specs.Prelude.{Some}
use Rattle.whole.specs.Digits.{leading_value, digits_of}
use Rattle.whole.proofs.Reading.{value_in, value_out}
use Rattle.words.specs.Places.{line_number}
use Rattle.loader.proofs.Found.{no_digit, too_large, is_number}
use Rattle.loader.proofs.lines.number_of.Goals as goal

pub returns-in_err-value : goal.returns-in_err-value
unfolding digits_of
returns-in_err-value c = let v = value_out (leading_value c.args.line.now) c.in_err-value.was (ap (λ d. d.magnitude) c.leading_digits-digits.ensures) in
    c.from_residual.ensures ∙ sym (too_large _ (omega arith))

pub returns-then-digits-eq0 : goal.returns-then-digits-eq0
unfolding digits_of
returns-then-digits-eq0 c = let v = value_in (leading_value c.args.line.now) _ c.in_ok-value.was (ap (λ d. d.magnitude) c.leading_digits-digits.ensures) in
    ⊎_elim (λ z. sym (no_digit _ (sym (ap (λ d. d.count) c.leading_digits-digits.ensures) ∙ z)))
    (λ h. sym (too_large _ (omega (arith, v, h.1)))) c.then-digits-eq0.either

pub returns : goal.returns
unfolding digits_of
returns c = let v = value_in (leading_value c.args.line.now) _ c.in_ok-value.was (ap (λ d. d.magnitude) c.leading_digits-digits.ensures) in
    sym
    (is_number _ (λ z. c.if-digits-eq0.false (ap (λ d. d.count) c.leading_digits-digits.ensures ∙ z)) (omega arith)
    ∙ ap₂ (λ n k. Some (line_number n, k)) v (sym (ap (λ d. d.count) c.leading_digits-digits.ensures)))
