use Rattle.std.specs.Prelude.{Some}
use mathlib.Core.Path.{refl, sym, ap, ◌∙◌}
use Rattle.machine.specs.Items.{items_of}
use Rattle.order.proofs.Pairing.{whereat}
use Rattle.feeding.proofs.Cursor.{by_first, items_none, inside_data}
use Rattle.feeding.specs.bridge.Taking.{WalksOver, SoughtAs}
use Rattle.feeding.proofs.taking.first_from.Goals as goal

pub loop-walk-init : goal.loop-walk-init
loop-walk-init c = (c.requires, λ xs w. record { xs = xs; walks = w; all = refl })

pub returns-in_default : goal.returns-in_default
unfolding items_of
returns-in_default c = λ xs w. let k = (rw c.in_default.is at c.loop-walk.invariant.1) xs w in k.all ∙ ap items_of k.walks

pub lead_of-lead-requires : goal.lead_of-lead-requires
lead_of-lead-requires c = let i = rw c.in-Some.is at c.loop-walk.invariant.0 in record { xs = i.xs; ahead = i.walks }

pub returns-in-Some-items_of : goal.returns-in-Some-items_of
returns-in-Some-items_of c = λ xs w.
    let k = (rw c.in-Some.is at c.loop-walk.invariant.1) xs w in
    let d = rw c.in-Some-items_of.is at c.items_of.ensures in
    rw k.all
    (by_first (λ ys. SoughtAs c.args.text.now (Some (c.in-Some.spot.line, c.in-Some-items_of.at)) (items_of ys)) k.xs k.walks
    (λ y ys a. (a.spans, rw d.ends (inside_data a (sym c.lead_of-lead.ensures ∙ d.is)))))

pub onward-walk-requires : goal.onward-walk-requires
onward-walk-requires c = (let i = rw c.in-Some.is at c.loop-walk.invariant.0 in record { xs = i.xs; ahead = i.walks }, c.lead_of-lead.ensures)

pub loop-walk-smaller : goal.loop-walk-smaller
loop-walk-smaller c = rw c.in-Some.is c.onward-walk.ensures.1

pub loop-walk-preserved : goal.loop-walk-preserved
loop-walk-preserved c = let n = rw c.in_default-items_of.is at c.items_of.ensures in
    let i = whereat (rw c.in-Some.is at c.loop-walk.invariant.0) in (
      record { xs = i.xs; walks = c.onward-walk.ensures.0 i.x i.xs i.ahead },
      λ xs w.
          let k = (rw c.in-Some.is at c.loop-walk.invariant.1) xs w in
          rw k.all
          (by_first (λ ys. WalksOver c.args.text.now c.onward-walk.result (items_of ys)) k.xs k.walks
          (λ y ys a. record { xs = ys; walks = c.onward-walk.ensures.0 y ys a; all = items_none a (λ t e. n t (c.lead_of-lead.ensures ∙ e)) })),
    )
