-- The loop's invariant: the statements from where the walk is on make of the count what all of them make of none; and no more were counted than passed.
use Rattle.std.specs.Prelude.{Some}
use Rattle.std.proofs.lemmas.Result.{err_from_is_err_and}
use mathlib.Core.Path.{sym, ◌∙◌}
use mathlib.Core.List.{List}
use Prim.Native.Nat.{ℕ}
use native.Mathlib.Omega.{arith}
use Rattle.loader.specs.Lines.{lines_of}
use Rattle.machine.specs.Order.{stands}
use Rattle.order.proofs.Pairing.{left_few}
use Rattle.bounding.specs.Bounding.{bound_of}
use Rattle.bounding.proofs.Counting.{Counts, from_first, count_none, count_over, count_spotted, count_back, count_more}
use Rattle.bounding.proofs.bounds.bound_of.Goals as goal

pub returns-in_err-load : goal.returns-in_err-load
unfolding bound_of
returns-in_err-load c =
    let p = err_from_is_err_and c.from_residual.result c.from_residual.ensures.1 in
    rw (p.1, p.2, sym c.load.ensures ∙ c.in_err-load.was)

pub enter-walk-requires : goal.enter-walk-requires
enter-walk-requires c = from_first c.args.text.now (sym c.load.ensures ∙ c.in_ok-load.was)

pub loop-walk-init : goal.loop-walk-init
loop-walk-init c = let e = sym c.load.ensures ∙ c.in_ok-load.was in
    (record { xs = stands (lines_of c.args.text.now); walks = c.enter-walk.ensures.0; same = count_none c.args.text.now e }, omega (arith, left_few c.args.text.now c.enter-walk.result (stands (lines_of c.args.text.now)) c.enter-walk.ensures.0))

pub returns : goal.returns
returns c = count_over (rw c.in_default.is at c.loop-walk.invariant.0)

pub lead_of-lead-requires : goal.lead_of-lead-requires
lead_of-lead-requires c =
    let text : List ℕ = c.args.text.now in
    let here : Counts text (Some c.in-Some.spot) c.loop-walk.count (bound_of text) = rw c.in-Some.is at c.loop-walk.invariant.0 in
    count_spotted (here)

pub returns-then-not-leads_on : goal.returns-then-not-leads_on
returns-then-not-leads_on c =
    let text : List ℕ = c.args.text.now in
    let here : Counts text (Some c.in-Some.spot) c.loop-walk.count (bound_of text) = rw c.in-Some.is at c.loop-walk.invariant.0 in
    count_back (here) c.lead_of-lead.ensures c.leads_on.ensures c.if-not-leads_on.true-raw

pub overflow_add-count : goal.overflow_add-count
overflow_add-count c = omega (arith, c.loop-walk.invariant.1)

pub onward-walk-requires : goal.onward-walk-requires
onward-walk-requires c =
    let text : List ℕ = c.args.text.now in
    let here : Counts text (Some c.in-Some.spot) c.loop-walk.count (bound_of text) = rw c.in-Some.is at c.loop-walk.invariant.0 in
    (count_spotted (here), c.lead_of-lead.ensures)

pub loop-walk-smaller : goal.loop-walk-smaller
loop-walk-smaller c = rw c.in-Some.is c.onward-walk.ensures.1

pub loop-walk-preserved : goal.loop-walk-preserved
loop-walk-preserved c =
    let text : List ℕ = c.args.text.now in
    let here : Counts text (Some c.in-Some.spot) c.loop-walk.count (bound_of text) = rw c.in-Some.is at c.loop-walk.invariant.0 in
    let n = rw c.in-Some.is at c.loop-walk.invariant.1 in (
      count_more (here) c.lead_of-lead.ensures c.leads_on.ensures c.if-not-leads_on.false-raw c.onward-walk.ensures.0,
      omega (arith, n, c.onward-walk.ensures.1),
    )
