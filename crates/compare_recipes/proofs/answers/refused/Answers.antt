-- A word, two fields, more and an end are put one after the other (`line_put`).
use Rattle.std.proofs.Common.{arith}
use Rattle.whole.specs.Bytes.{bytes}
use Rattle.loader.specs.Refusals.{refusal_number}
use Rattle.compare_recipes.proofs.Telling.{line_put}
use Rattle.compare_recipes.proofs.answers.refused.Goals as goal

pub returns : goal.returns
unfolding bytes
returns c =
    rw (c.end_line.ensures, c.put_bytes-named.ensures, c.put_field-placed.ensures, c.put_field-numbered.ensures, c.put_bytes-word.ensures, c.empty.ensures, c.refusal_number-number.ensures)
    (line_put (bytes "refused") c.args.more.now (refusal_number c.args.why.refusal) c.args.why.place.0 (omega arith) c.requires)
