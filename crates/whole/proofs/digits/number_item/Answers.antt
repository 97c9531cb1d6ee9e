-- Rests on: an item of a sign and digits begins with no blank, so that VAL reads all of it.
use mathlib.Core.Path.{sym, ◌∙◌}
use Rattle.whole.specs.Digits.{number_item}
use Rattle.whole.proofs.Items.{val_whole}
use Rattle.whole.proofs.digits.number_item.Goals as goal

pub returns-then-not-digits_only : goal.returns-then-not-digits_only
unfolding number_item
returns-then-not-digits_only c = let d = sym c.digits_only.ensures ∙ c.if-not-digits_only.true in
    rw (← c.after_sign.ensures, d)

pub returns : goal.returns
unfolding number_item
returns c = let d = sym c.digits_only.ensures ∙ c.if-not-digits_only.false in
    rw (← c.after_sign.ensures, d) (c.val.ensures ∙ val_whole _ (rw (← c.after_sign.ensures) d))
