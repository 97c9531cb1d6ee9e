use mathlib.Core.Path.{refl}
use Rattle.order.proofs.Laws.{spot_of}
use Rattle.machine.specs.Order.{wend_for}
use Rattle.machine.specs.bridge.Holding.{lines_at}
use Rattle.repeating.proofs.Conditions.{over_none, met_at}
use Rattle.repeating.proofs.whiles.past_wend.Goals as goal

pub position_past-requires : goal.position_past-requires
position_past-requires c = spot_of (wend_for c.args.at.0 (lines_at c.args.text.now c.args.line.0)) (rw c.in-Some.is at c.partner_after.ensures)

pub returns-in-None : goal.returns-in-None
returns-in-None c = rw (over_none c.args.text.now (wend_for c.args.at.0 (lines_at c.args.text.now c.args.line.0)) (rw c.in-None.is at c.partner_after.ensures)) refl

pub returns-in-Some : goal.returns-in-Some
returns-in-Some c = let w = met_at (wend_for c.args.at.0 (lines_at c.args.text.now c.args.line.0)) (rw c.in-Some.is at c.partner_after.ensures) in
    let p = c.position_past.ensures w.wend w.rest w.ahead in
    rw w.is (record { to = c.position_past.result; is = refl; placed = p.0; there = p.1 })
