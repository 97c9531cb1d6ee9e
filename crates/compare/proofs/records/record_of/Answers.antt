-- The word, the digits and the end are laid over zeros one after the other (`record_laid`).
use mathlib.Core.Path.{ap, ◌∙◌}
use native.Mathlib.Omega.{arith}
use lib.ListN.{length}
use Rattle.space.proofs.Overlaid.{overlaid-length}
use Rattle.compare.proofs.Laid.{word_fits, word_leaves, digits_shown, before_end, record_laid}
use Rattle.compare.proofs.records.record_of.Goals as goal

pub put-word-requires : goal.put-word-requires
put-word-requires c = word_fits c.args.difference.way c.word_of.ensures

pub put-number-requires : goal.put-number-requires
put-number-requires c =
    let d = c.args.difference in
    omega (arith, before_end d c.word_of.ensures (digits_shown _ c.decimal_text-digits.ensures c.from.ensures) c.put-word.ensures.value, word_leaves d.way c.word_of.ensures c.put-word.ensures.out_after)

pub put-len-requires : goal.put-len-requires
put-len-requires c =
    let d = c.args.difference in
    let h = before_end d c.word_of.ensures (digits_shown _ c.decimal_text-digits.ensures c.from.ensures) c.put-word.ensures.value in
    let l = word_leaves d.way c.word_of.ensures c.put-word.ensures.out_after in
    omega (arith, h, l, c.put-number.ensures.value, ap length c.put-number.ensures.out_after ∙ overlaid-length _ _ _ (omega (arith, h, l)))

pub overflow_cast-result : goal.overflow_cast-result
overflow_cast-result c =
    let h = before_end c.args.difference c.word_of.ensures (digits_shown _ c.decimal_text-digits.ensures c.from.ensures) c.put-word.ensures.value in
    omega (arith, h, c.put-number.ensures.value, c.put-len.ensures.value)

pub returns : goal.returns
returns c =
    let digits = digits_shown _ c.decimal_text-digits.ensures c.from.ensures in
    record_laid c.args.difference c.word_of.ensures digits c.put-word.ensures.value c.put-word.ensures.out_after c.put-number.ensures.value c.put-number.ensures.out_after c.put-len.ensures.value c.put-len.ensures.out_after
