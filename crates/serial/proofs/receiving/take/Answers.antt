-- A short buffer is as it was; otherwise the receipt decides.
use mathlib.Core.Path.{◌≡◌, sym, ap, ◌∙◌}
use mathlib.Core.Bool.{false}
use Rattle.serial.specs.Receiving.{held, too_short}
use Rattle.serial.proofs.Steps.{taken_short, taken_much, taken-placed}
use Rattle.serial.proofs.receiving.take.Goals as goal

pub returns-then-is_short : goal.returns-then-is_short
returns-then-is_short c = sym (taken_short _ _ _ (sym c.is_short.ensures ∙ c.if-is_short.true))

pub returns-in_err-receipt : goal.returns-in_err-receipt
returns-in_err-receipt c =
    let wide : too_short c.args.buffer.now ≡ false = sym c.is_short.ensures ∙ c.if-is_short.false in
    ap (λ r. held r c.args.buffer.now) c.from_residual.ensures ∙ sym (taken_much _ _ _ (wide) c.in_err-receipt.was)

pub returns : goal.returns
returns c =
    let wide : too_short c.args.buffer.now ≡ false = sym c.is_short.ensures ∙ c.if-is_short.false in
    c.place_part.ensures ∙ sym (taken-placed _ _ _ (wide) _ c.in_ok-receipt.was)
