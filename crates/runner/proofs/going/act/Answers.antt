-- The statement that stands there is done, and leads to where the run stands then.
use native.Mathlib.Omega.{arith}
use Rattle.runner.proofs.Turning.{stands_here, stood_told, acts_begins, acts_made, acts_at}
use Rattle.runner.proofs.going.act.Goals as goal

pub span_in-span-requires : goal.span_in-span-requires
span_in-span-requires c = let h = stands_here c.requires.0 c.in-At.is in omega (arith, h.inside, c.args.table.now.ordered.few)

pub slice_bounds-do_statement-count : goal.slice_bounds-do_statement-count
slice_bounds-do_statement-count c = rw c.span_in-span.ensures (stood_told (stands_here c.requires.0 c.in-At.is).stood).low

pub slice_bounds-do_statement-start : goal.slice_bounds-do_statement-start
slice_bounds-do_statement-start c = rw c.span_in-span.ensures (stood_told (stands_here c.requires.0 c.in-At.is).stood).low

pub slice_bounds-do_statement-end : goal.slice_bounds-do_statement-end
slice_bounds-do_statement-end c = let t = stood_told (stands_here c.requires.0 c.in-At.is).stood in rw c.span_in-span.ensures (omega (arith, t.low, t.high))

pub do_statement-turned-requires : goal.do_statement-turned-requires
do_statement-turned-requires c = rw c.span_in-span.ensures (acts_begins (stands_here c.requires.0 c.in-At.is) (c.requires.1.0.asks _ _ c.in-At.is) c.requires.1.1)

pub following-standing-requires : goal.following-standing-requires
following-standing-requires c = (stands_here c.requires.0 c.in-At.is).inside

pub returns : goal.returns
returns c = acts_at c.in-At.is
    (acts_made (stands_here c.requires.0 c.in-At.is) (c.requires.1.0.asks _ _ c.in-At.is) c.requires.1.1 _ (rw c.span_in-span.ensures at c.do_statement-turned.ensures) c.following-standing.ensures)
