-- Rests on: a text starts with its sign, and `put_numeral` puts the digits after it.
use mathlib.Core.Path.{◌≡◌, sym, ◌∙◌}
use mathlib.Core.List.{[], ◌∷◌}
use Prim.Native.Nat.{ℕ, ◌<◌, ◌^◌}
use lib.Dec.{lit<}
use lib.IntN.{nat_abs}
use native.Mathlib.Omega.{arith}
use mir.Syntax.{w16}
use mir.Val.{to_z, of_z}
use Rattle.whole.specs.Whole.{num}
use Rattle.whole.specs.Texts.{held, with_byte, sign_byte, signed_numeral}
use Rattle.whole.specs.declared.texts.Text.{Text}
use Rattle.whole.proofs.Numbers.{num_small}
use Rattle.whole.proofs.Numerals.{held_put, held_numeral, shown_below, shown_above}
use Rattle.whole.proofs.Sizes.{signed_back, signed_num}
use Rattle.whole.proofs.texts.str_text.Goals as goal
use Rattle.whole.proofs.texts.str_text.Goals.{then-number-lt0, else-number-lt0}

first : (t u : Text) (b : ℕ) → t ≡ held [] → u ≡ with_byte t b → u ≡ held (b ∷ [])
first t u b e f = rw (f, e) (held_put [] b (lit< tt))

pub returns : goal.returns
unfolding signed_numeral
returns c =
    let z = num c.args.word in
    let told : c.cast_signed-number.result ≡ z = c.cast_signed-number.ensures ∙ signed_num c.args.word c.ranges.word.fits in
    let read : to_z w16 (of_z w16 c.cast_signed-number.result) ≡ z =
    rw told (signed_back z (num_small c.args.word c.ranges.word.fits)) in
    let sign : c.if-number-lt0.sign ≡ sign_byte z =
    elim c.if-number-lt0.branch [
      | then-number-lt0 w ↦ w.sign-is ∙ sym (shown_below z (rw read at w.if-number-lt0.true))
      | else-number-lt0 w ↦ w.sign-is ∙ sym (shown_above z (rw read at w.if-number-lt0.false))
    ] in
    let size : c.unsigned_abs.result ≡ nat_abs z = rw read at c.unsigned_abs.ensures.value in
    let few : c.from.result < 10 ^ 5 = omega (arith, c.from.ensures) in
    rw (← sign, ← size)
    (rw (c.from.ensures, first _ _ _ c.empty.ensures c.put.ensures) at (c.put_numeral.ensures 4 few)
    ∙ held_numeral 10 (omega arith) (c.if-number-lt0.sign ∷ []) 5 c.unsigned_abs.result (omega arith))
