-- The types that are kept are those of the arguments, so that `call_fit` judges the call.
use mathlib.Core.Path.{sym, ◌∙◌}
use Rattle.expressions.specs.bridge.Answers.{sorts_in}
use Rattle.expressions.proofs.Answering.{listed_misfit, listed_fit}
use Rattle.expressions.proofs.readers.called.Goals as goal

pub returns-in_err-sort : goal.returns-in_err-sort
returns-in_err-sort c room a kept = rw c.from_residual.ensures (listed_misfit room c.args.line.now c.args.function a c.args.ahead (sym (c.if-not-is_symbol.false) ∙ c.is_symbol.ensures)
    (sym c.in_err-sort.was ∙ c.call_fit.ensures (sorts_in room a) kept.sorted))

pub returns : goal.returns
returns c room a kept = rw (c.token_at.ensures, c.deeper.ensures)
    (listed_fit room c.args.line.now c.args.function a c.args.ahead c.args.taken.sorts c.args.taken.deepest _
    (sym (c.if-not-is_symbol.false) ∙ c.is_symbol.ensures)
    kept
    (sym c.in_ok-sort.was ∙ c.call_fit.ensures (sorts_in room a) kept.sorted))
