-- The loop keeps that the rows from the one reached on tell what all of them do.
use Rattle.std.specs.Prelude.{Some}
use mathlib.Core.Path.{◌∙◌, ap}
use Rattle.index.proofs.Strides.{start_all, start_here, start_later, start_none}
use Rattle.index.proofs.asking.line_in.Goals as goal

pub loop-row-init : goal.loop-row-init
loop-row-init c = start_all c.args.index.now c.args.number c.at_most-row-end.result c.at_most-row-end.ensures

pub returns-then-index-at : goal.returns-then-index-at
returns-then-index-at c = ap Some c.place_of.ensures ∙ start_here _ _ _ _ c.loop-row-test.true c.if-index-at.true ∙ c.loop-row.invariant

pub loop-row-preserved : goal.loop-row-preserved
loop-row-preserved c = start_later _ _ _ _ c.loop-row-test.true c.if-index-at.false ∙ c.loop-row.invariant

pub returns : goal.returns
returns c = start_none _ _ _ _ c.loop-row-test.false ∙ c.loop-row.invariant
