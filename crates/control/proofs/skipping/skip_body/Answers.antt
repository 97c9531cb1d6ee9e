-- By the partner that was found.
use mathlib.Core.Path.{refl}
use Rattle.words.specs.Names.{name_bytes, telling_of}
use Rattle.machine.specs.bridge.Holding.{lines_at}
use Rattle.machine.specs.Order.{next_for}
use Rattle.order.proofs.Laws.{spot_of}
use Rattle.control.proofs.Skips.{skips_none, skips_past}
use Rattle.control.proofs.skipping.skip_body.Goals as goal

pub past_next-requires : goal.past_next-requires
past_next-requires c = spot_of (next_for c.args.at.0 (lines_at c.args.text.now c.args.line.0)) (rw c.in-Some.is at c.partner_after.ensures)

pub returns-in-None : goal.returns-in-None
returns-in-None c = skips_none c.args.text.now (telling_of (name_bytes c.args.own.now c.args.name)) (next_for c.args.at.0 (lines_at c.args.text.now c.args.line.0)) (rw c.in-None.is at c.partner_after.ensures)

pub returns-in-Some : goal.returns-in-Some
returns-in-Some c = let lines = lines_at c.args.text.now c.args.line.0 in
    skips_past c.args.text.now (telling_of (name_bytes c.args.own.now c.args.name)) _ c.args.at.0 lines (next_for c.args.at.0 lines) refl (rw c.in-Some.is at c.partner_after.ensures) c.past_next.ensures
