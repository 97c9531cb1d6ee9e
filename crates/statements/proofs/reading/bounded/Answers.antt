-- The formula's depth and type join those before it.
use mathlib.Core.Path.{refl}
use Rattle.grammar.specs.Formulas.{formula_of}
use Rattle.expressions.proofs.Answering.{not_read, answered_well}
use Rattle.statements.proofs.Readings.{bound_good}
use Rattle.statements.proofs.reading.bounded.Goals as goal

pub returns-in_err-read : goal.returns-in_err-read
returns-in_err-read c =
    let none = not_read 9 (formula_of c.args.line.now c.token_after.result) c.formula_at.ensures c.in_err-read.was in
    rw (c.from_residual.ensures, ← c.token_after.ensures, none)

pub returns-then-typed : goal.returns-then-typed
returns-then-typed c = let f = answered_well (formula_of c.args.line.now c.token_after.result) c.formula_at.ensures c.in_ok-read.was in
    rw (← c.token_after.ensures, f.is)
    (bound_good f.f c.in_ok-read.read.ahead f.sort f.deep c.args.depth c.args.typed c.max.ensures c.is_whole.ensures (rw c.if-typed.true))

pub returns-else-typed : goal.returns-else-typed
returns-else-typed c = let f = answered_well (formula_of c.args.line.now c.token_after.result) c.formula_at.ensures c.in_ok-read.was in
    rw (← c.token_after.ensures, f.is)
    (bound_good f.f c.in_ok-read.read.ahead f.sort f.deep c.args.depth c.args.typed c.max.ensures refl (rw c.if-typed.false))
