-- The loop's invariant: from where the walk is, with those that wait, the partner is the same; and no more wait than was passed.
use mathlib.Core.Path.{◌≡◌, refl, sym, ◌∙◌, ap}
use mathlib.Core.List.{List, ◌∷◌}
use Prim.Native.Nat.{ℕ}
use native.Mathlib.Omega.{arith}
use Rattle.statements.specs.Parts.{head_of}
use Rattle.machine.specs.Order.{Stand, pairs_by}
use Rattle.order.specs.bridge.Walking.{Ahead, Spotted, bracket_of, marked_by}
use Rattle.order.specs.declared.texts.Spot.{Spot}
use Rattle.order.proofs.Pairing.{seeking_over, met, met_here, met_still, whereat, still_few, left_few, spot_marked}
use Rattle.order.proofs.partners.partner.Goals as goal

pub loop-walk-init : goal.loop-walk-init
loop-walk-init c = (c.requires, (omega (arith, left_few c.args.text.now c.args.from c.requires.xs c.requires.walks), λ xs w. record { xs = xs; walks = w; same = refl }))

pub returns : goal.returns
returns c = λ xs w. seeking_over ((rw c.in_default.is at c.loop-walk.invariant.1.1) xs w)

pub lead_of-lead-requires : goal.lead_of-lead-requires
lead_of-lead-requires c =
    let there : Spot = c.in-Some.spot in
    let spotted : Spotted c.args.text.now there = let i = rw c.in-Some.is at c.loop-walk.invariant.0 in record { xs = i.xs; ahead = i.walks } in
    spotted

pub counted-requires : goal.counted-requires
counted-requires c = omega (arith, c.loop-walk.invariant.1.0)

pub returns-in_default-counted : goal.returns-in_default-counted
returns-in_default-counted c =
    let text : List ℕ = c.args.text.now in
    let there : Spot = c.in-Some.spot in
    let marks : (x : Stand) (xs : List Stand) → Ahead text (there) (x ∷ xs) → bracket_of c.marked.result ≡ pairs_by c.args.opens c.args.closes (head_of x.part) = λ x xs a. ap bracket_of (c.marked.ensures ∙ ap (marked_by c.args.opens c.args.closes) c.lead_of-lead.ensures) ∙ spot_marked c.args.opens c.args.closes a in
    λ xs w.
    let k = met ((rw c.in-Some.is at c.loop-walk.invariant.1.1) xs w) in
    met_here k c.marked.result (marks k.x k.xs k.ahead) (sym c.in_default-counted.is ∙ c.counted.ensures)

pub onward-walk-requires : goal.onward-walk-requires
onward-walk-requires c =
    let there : Spot = c.in-Some.spot in
    let spotted : Spotted c.args.text.now there = let i = rw c.in-Some.is at c.loop-walk.invariant.0 in record { xs = i.xs; ahead = i.walks } in
    (spotted, c.lead_of-lead.ensures)

pub loop-walk-smaller : goal.loop-walk-smaller
loop-walk-smaller c = rw c.in-Some.is c.onward-walk.ensures.1

pub loop-walk-preserved : goal.loop-walk-preserved
loop-walk-preserved c =
    let text : List ℕ = c.args.text.now in
    let there : Spot = c.in-Some.spot in
    let marks : (x : Stand) (xs : List Stand) → Ahead text (there) (x ∷ xs) → bracket_of c.marked.result ≡ pairs_by c.args.opens c.args.closes (head_of x.part) = λ x xs a. ap bracket_of (c.marked.ensures ∙ ap (marked_by c.args.opens c.args.closes) c.lead_of-lead.ensures) ∙ spot_marked c.args.opens c.args.closes a in
    let i = whereat (rw c.in-Some.is at c.loop-walk.invariant.0) in
    let n = rw c.in-Some.is at c.loop-walk.invariant.1.0 in
    let e = sym c.in-Some-counted.is ∙ c.counted.ensures in
    let f = still_few c.marked.result c.loop-walk.waiting c.in-Some-counted.count e in (
      record { xs = i.xs; walks = c.onward-walk.ensures.0 i.x i.xs i.ahead },
      (
        omega (arith, f, n, c.onward-walk.ensures.1),
        λ xs v.
            let k = met ((rw c.in-Some.is at c.loop-walk.invariant.1.1) xs v) in
            met_still k c.marked.result (marks k.x k.xs k.ahead) e (c.onward-walk.ensures.0 k.x k.xs k.ahead),
      ),
    )
