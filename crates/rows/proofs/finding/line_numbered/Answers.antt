-- What is found by its number is the line that the text has with it.
use mathlib.Core.Path.{◌≡◌, ap, ◌∙◌}
use native.Mathlib.Omega.{arith}
use Rattle.std.specs.Prelude.{None, Some}
use Rattle.rows.proofs.Searching.{found_number}
use Rattle.rows.proofs.finding.line_numbered.Goals as goal

pub span_in-requires : goal.span_in-requires
span_in-requires c =
    let q : c.row_with.result ≡ Some c.in_ok-row.row = c.in_ok-row.was in
    let f = rw q at c.row_with.ensures in omega (arith, f.0, c.args.table.now.ordered.few)

pub returns-in_err-row : goal.returns-in_err-row
returns-in_err-row c = λ text t.
    let q : c.row_with.result ≡ None = c.in_err-row.was in
    let f = rw c.from.ensures at c.row_with.ensures in
    c.from_residual.ensures ∙ rw q at (found_number t c.args.number c.row_with.result f)

pub returns : goal.returns
returns c = λ text t.
    let q : c.row_with.result ≡ Some c.in_ok-row.row = c.in_ok-row.was in
    let f = rw c.from.ensures at c.row_with.ensures in
    ap Some c.span_in.ensures ∙ rw q at (found_number t c.args.number c.row_with.result f)
