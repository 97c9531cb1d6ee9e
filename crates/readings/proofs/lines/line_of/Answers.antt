-- A blank line of the reading's kind, with the digits laid over it (`single_line`, `double_line`).
use mathlib.Core.Path.{sym, ap, ◌∙◌}
use native.Mathlib.Omega.{arith}
use borrow.Author.Rules.{rules}
use lib.ListN.{length}
use Rattle.whole.specs.Bytes.{bytes}
use Rattle.space.specs.Moves.{overlaid}
use Rattle.readings.specs.Lines.{hex_digits, line_of}
use Rattle.readings.specs.declared.values.Reading.{Reading}
use Rattle.readings.proofs.Filled.{single_line, double_line}
use Rattle.readings.proofs.lines.line_of.Goals as goal

pub returns-in-Single : goal.returns-in-Single
unfolding bytes
returns-in-Single c = let t = single_line c.in-Single.value c.with_digits-bytes.result
    (c.with_digits-bytes.ensures ∙ ap (λ b. overlaid (bytes "single\t........\n........") 7 (hex_digits 8 b)) c.from.ensures) in
    (t.0 ∙ ap line_of (sym c.in-Single.is), t.1 ∙ ap (λ (x : Reading). length (line_of x)) (sym c.in-Single.is), omega arith, search rules)

pub returns-in-Double : goal.returns-in-Double
unfolding bytes
returns-in-Double c = let t = double_line c.in-Double.value c.with_digits-bytes-in-Double.result c.with_digits-bytes-in-Double.ensures in
    (t.0 ∙ ap line_of (sym c.in-Double.is), t.1 ∙ ap (λ (x : Reading). length (line_of x)) (sym c.in-Double.is), omega arith, search rules)
