use Rattle.std.specs.Prelude.{Some}
use mathlib.Core.Path.{refl, sym, ap, ◌∙◌}
use native.Mathlib.Omega.{arith}
use Rattle.items.proofs.Inside.{comma_inside}
use Rattle.statements.proofs.Findings.{passed, failed}
use Rattle.statements.proofs.Naming.{data_begins, data_stops, data_last, data_more}
use Rattle.statements.proofs.reading.data.Goals as goal

pub loop-item-init : goal.loop-item-init
loop-item-init c = refl

pub returns-in_err-item : goal.returns-in_err-item
returns-in_err-item c = rw c.from_residual.ensures (sym (data_begins c.args.line.now c.args.word ∙ data_stops c.args.line.now c.loop-item.at.0 c.loop-item.invariant (sym c.item_at.ensures ∙ c.in_err-item.was)))

pub returns-then-not-item : goal.returns-then-not-item
returns-then-not-item c = ap Some c.plain.ensures ∙ rw c.token_at.ensures (sym (data_begins c.args.line.now c.args.word ∙ data_last c.args.line.now c.loop-item.at.0 c.loop-item.invariant c.in_ok-item.item (sym c.item_at.ensures ∙ c.in_ok-item.was) (failed refl c.if-not-item.true)))

pub overflow_add-at : goal.overflow_add-at
overflow_add-at c = let h = comma_inside c.args.line.now c.loop-item.at.0 c.in_ok-item.item (sym c.item_at.ensures ∙ c.in_ok-item.was) (passed refl c.if-not-item.false) in
    omega (arith, h.1)

pub loop-item-smaller : goal.loop-item-smaller
loop-item-smaller c = let h = comma_inside c.args.line.now c.loop-item.at.0 c.in_ok-item.item (sym c.item_at.ensures ∙ c.in_ok-item.was) (passed refl c.if-not-item.false) in
    omega (arith, h.0, h.1)

pub loop-item-preserved : goal.loop-item-preserved
loop-item-preserved c = data_more c.args.line.now c.loop-item.at.0 c.loop-item.invariant c.in_ok-item.item (sym c.item_at.ensures ∙ c.in_ok-item.was) (passed refl c.if-not-item.false)
