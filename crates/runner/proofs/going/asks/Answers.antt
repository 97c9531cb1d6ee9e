-- The statement that stands there: how it is led, and what is looked for.
use native.Mathlib.Omega.{arith}
use Rattle.runner.proofs.Turning.{stands_here, stood_told}
use Rattle.runner.proofs.going.asks.Goals as goal

pub span_in-span-requires : goal.span_in-span-requires
span_in-span-requires c = let h = stands_here c.requires c.in-At.is in omega (arith, h.inside, c.args.table.now.ordered.few)

pub slice_bounds-line-count : goal.slice_bounds-line-count
slice_bounds-line-count c = rw c.span_in-span.ensures (stood_told (stands_here c.requires c.in-At.is).stood).low

pub slice_bounds-line-start : goal.slice_bounds-line-start
slice_bounds-line-start c = rw c.span_in-span.ensures (stood_told (stands_here c.requires c.in-At.is).stood).low

pub slice_bounds-line-end : goal.slice_bounds-line-end
slice_bounds-line-end c = let t = stood_told (stands_here c.requires c.in-At.is).stood in rw c.span_in-span.ensures (omega (arith, t.low, t.high))
