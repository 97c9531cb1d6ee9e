-- The next field goes first (`field_first`); a word that was put into an empty text, fields and an end are a line (`line_put`).
use Rattle.std.proofs.Common.{◌≡◌, ap, sym, ◌∙◌, drop_of_length-le}
use Rattle.console.proofs.Writing.{with_fields, field_first, line_put}
use Rattle.console.proofs.lines.line.Goals as goal

pub loop-number-preserved : goal.loop-number-preserved
loop-number-preserved c = rw c.put_field-text.ensures (field_first _ _ _ c.loop-number-test.true ∙ c.loop-number.invariant)

pub returns : goal.returns
returns c short =
    let whole : c.loop-number.text ≡ with_fields c.put_bytes-text.result c.args.numbers.now
    = ap (with_fields _) (sym (drop_of_length-le _ c.loop-number-test.false)) ∙ c.loop-number.invariant in
    rw (c.end_line.ensures, whole, c.put_bytes-text.ensures, c.empty.ensures) (line_put _ _ short)
