-- A condition must stand there.
use Rattle.std.specs.Prelude.{Some}
use mathlib.Core.Path.{ap, ◌∙◌}
use Rattle.grammar.specs.Formulas.{formula_of}
use Rattle.expressions.proofs.Answering.{not_read, answered_well}
use Rattle.statements.proofs.Readings.{repeated}
use Rattle.statements.proofs.reading.repeat_head.Goals as goal

pub returns-in_err-read : goal.returns-in_err-read
returns-in_err-read c = rw (c.from_residual.ensures, not_read 9 (formula_of c.args.line.now c.args.ahead) c.formula_at.ensures c.in_err-read.was)

pub returns : goal.returns
returns c = let f = answered_well (formula_of c.args.line.now c.args.ahead) c.formula_at.ensures c.in_ok-read.was in
    rw f.is (ap Some c.formed.ensures ∙ repeated f.f c.in_ok-read.read.ahead f.sort f.deep c.is_whole.ensures)
