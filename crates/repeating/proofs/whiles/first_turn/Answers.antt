use Rattle.std.specs.Prelude.{None}
use Rattle.order.proofs.Laws.{spot_of}
use Rattle.machine.specs.Order.{wend_for}
use Rattle.machine.specs.bridge.Holding.{lines_at}
use Rattle.repeating.proofs.Conditions.{over_none, met_at, no_wend, first_none, first_false, first_true}
use Rattle.variables.proofs.Agreements.{NoWhole, no_whole_text, no_whole_error}
use Rattle.repeating.proofs.whiles.first_turn.Goals as goal
use Rattle.repeating.proofs.whiles.first_turn.Goals.{in_default-worked-via-in-Ok+in_default, in_default-worked-via-in_default}

pub returns-in_default : goal.returns-in_default
returns-in_default c = λ input room entry f u sound k.
    rw c.fails.ensures (no_wend k sound None entry (over_none c.args.text.now (wend_for c.args.at.0 (lines_at c.args.text.now c.args.here.0)) (rw c.in_default.is at c.partner_after.ensures)))

pub returns-in_default-worked : goal.returns-in_default-worked
returns-in_default-worked c = λ input room entry f u sound k.
    let w = met_at (wend_for c.args.at.0 (lines_at c.args.text.now c.args.here.0)) (rw c.in-Some.is at c.partner_after.ensures) in
    let none : NoWhole c.value-worked.result =
    elim c.in_default-worked.branch [ in_default-worked-via-in-Ok+in_default w ↦ no_whole_text w.in_default-worked.is (rw w.in_default-worked.is at w.in_default-worked.in-Text-own.keys2) | in_default-worked-via-in_default w ↦ no_whole_error w.in_default-worked.is ] in
    rw (c.fails-in_default-worked.ensures, c.mismatch.ensures) (first_none k sound w.is entry c.value-worked.result none (c.value-worked.ensures f u k.reads))

pub position_past-requires : goal.position_past-requires
position_past-requires c = spot_of (wend_for c.args.at.0 (lines_at c.args.text.now c.args.here.0)) (rw c.in-Some.is at c.partner_after.ensures)

pub returns-then-word-eq0 : goal.returns-then-word-eq0
returns-then-word-eq0 c = λ input room entry f u sound k.
    let w = met_at (wend_for c.args.at.0 (lines_at c.args.text.now c.args.here.0)) (rw c.in-Some.is at c.partner_after.ensures) in
    let v = rw (c.in-Ok-Whole.is, rw c.in-Ok-Whole.is at c.in-Ok-Whole.field-0-is) at (c.value-worked.ensures f u k.reads) in
    let p = c.position_past.ensures w.wend w.rest w.ahead in
    rw c.turned_to.ensures (first_false k sound w.is entry v c.if-word-eq0.true p.0 p.1)

pub returns : goal.returns
returns c = λ input room entry f u sound k.
    let w = met_at (wend_for c.args.at.0 (lines_at c.args.text.now c.args.here.0)) (rw c.in-Some.is at c.partner_after.ensures) in
    let v = rw (c.in-Ok-Whole.is, rw c.in-Ok-Whole.is at c.in-Ok-Whole.field-0-is) at (c.value-worked.ensures f u k.reads) in
    rw (c.push.ensures _, c.repeats-held.ensures, c.after.ensures) (first_true k sound w.is entry v w.ahead c.if-word-eq0.false)
