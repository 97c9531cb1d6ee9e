-- An equals sign and a formula must stand there.
use Rattle.std.specs.Prelude.{Some}
use mathlib.Core.Path.{ap, ◌∙◌}
use Rattle.grammar.specs.Formulas.{formula_of}
use Rattle.statements.specs.Statements.{variable_of}
use Rattle.expressions.proofs.Answering.{not_read, answered_well}
use Rattle.statements.proofs.Findings.{passed, failed}
use Rattle.statements.proofs.Readings.{assigned}
use Rattle.statements.proofs.reading.assignment.Goals as goal

pub returns-then-not-sign_stands : goal.returns-then-not-sign_stands
returns-then-not-sign_stands c = rw (failed c.sign_stands.ensures c.if-not-sign_stands.true-raw)

pub returns-in_err-read : goal.returns-in_err-read
returns-in_err-read c =
    let none = not_read 9 (formula_of c.args.line.now c.token_after.result) c.formula_at.ensures c.in_err-read.was in
    rw (c.from_residual.ensures, passed c.sign_stands.ensures c.if-not-sign_stands.false-raw, ← c.token_after.ensures, none)

pub returns : goal.returns
returns c =
    let f = answered_well (formula_of c.args.line.now c.token_after.result) c.formula_at.ensures c.in_ok-read.was in
    rw (passed c.sign_stands.ensures c.if-not-sign_stands.false-raw, ← c.token_after.ensures, f.is)
    (ap Some c.formed.ensures ∙ assigned f.f c.in_ok-read.read.ahead f.sort f.deep (variable_of c.args.line.now c.args.name) c.is_of.ensures)
