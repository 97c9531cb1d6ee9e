-- A short buffer is as it was; otherwise the receipt decides.
use mathlib.Core.Path.{◌≡◌, sym, ◌∙◌}
use mathlib.Core.Bool.{false}
use Rattle.serial.specs.Receiving.{too_short}
use Rattle.serial.proofs.Steps.{finished_short, finished_much, finished_loaded}
use Rattle.serial.proofs.receiving.finish.Goals as goal

pub returns-then-is_short : goal.returns-then-is_short
returns-then-is_short c = sym (finished_short _ _ (sym c.is_short.ensures ∙ c.if-is_short.true))

pub returns-in-None : goal.returns-in-None
returns-in-None c =
    let wide : too_short c.args.buffer.now ≡ false = sym c.is_short.ensures ∙ c.if-is_short.false in
    c.refuse_long.ensures ∙ sym (finished_much _ _ (wide) c.in-None.is)

pub returns-in-Some : goal.returns-in-Some
returns-in-Some c =
    let wide : too_short c.args.buffer.now ≡ false = sym c.is_short.ensures ∙ c.if-is_short.false in
    c.load_held.ensures ∙ sym (finished_loaded _ _ (wide) _ c.in-Some.is)
