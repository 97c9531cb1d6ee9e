-- A formula with the beginning of a part after it.
use mathlib.Core.Path.{refl}
use Rattle.grammar.specs.Formulas.{formula_of}
use Rattle.expressions.proofs.Answering.{answered_well, not_read}
use Rattle.statements.proofs.Findings.{passed, failed}
use Rattle.statements.proofs.Readings.{chosen}
use Rattle.statements.proofs.reading.condition.Goals as goal

pub returns-then-not-part_begins : goal.returns-then-not-part_begins
returns-then-not-part_begins c = let a = answered_well (formula_of c.args.line.now c.args.ahead) c.formula_at.ensures c.in_ok-read.was in
    rw (a.is, c.part_begins.ensures a.f, failed {b = c.part_begins.result} refl c.if-not-part_begins.true-raw)

pub returns-in_err-read : goal.returns-in_err-read
returns-in_err-read c = rw (c.from_residual.ensures, not_read 9 (formula_of c.args.line.now c.args.ahead) c.formula_at.ensures c.in_err-read.was)

pub returns : goal.returns
returns c = let a = answered_well (formula_of c.args.line.now c.args.ahead) c.formula_at.ensures c.in_ok-read.was in
    rw (a.is, c.part_begins.ensures a.f, passed {b = c.part_begins.result} refl c.if-not-part_begins.false-raw) (chosen a.f c.in_ok-read.read.ahead a.sort a.deep c.is_whole.ensures)
