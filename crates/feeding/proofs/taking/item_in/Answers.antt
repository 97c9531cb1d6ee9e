use mathlib.Core.Path.{sym, ap, ◌∙◌}
use native.Mathlib.Omega.{arith}
use Rattle.feeding.proofs.Stepping.{here, inside, body_long, not_bad, inside_took}
use lib.ListN.{length}
use Rattle.feeding.proofs.taking.item_in.Goals as goal

pub slice_bounds-body-count : goal.slice_bounds-body-count
slice_bounds-body-count c = (here c.requires.loads c.requires.is c.requires.inside).low

pub slice_bounds-body-start : goal.slice_bounds-body-start
slice_bounds-body-start c = (here c.requires.loads c.requires.is c.requires.inside).low

pub slice_bounds-body-end : goal.slice_bounds-body-end
slice_bounds-body-end c = let t = here c.requires.loads c.requires.is c.requires.inside in omega (arith, t.low, t.high)

pub overflow_add-first : goal.overflow_add-first
overflow_add-first c = let t = here c.requires.loads c.requires.is c.requires.inside in
    let k = inside c.requires.loads c.requires.is c.requires.inside c.in-Some.item (sym c.item_at.ensures ∙ c.in-Some.is) in
    omega (arith, k.before, k.within, body_long c.requires.loads c.requires.is c.requires.inside, t.low, t.high)

pub feed_after-feed-requires : goal.feed_after-feed-requires
feed_after-feed-requires c = let t = here c.requires.loads c.requires.is c.requires.inside in
    let k = inside c.requires.loads c.requires.is c.requires.inside c.in-Some.item (sym c.item_at.ensures ∙ c.in-Some.is) in
    omega (arith, k.within, ap length t.body, t.short)

pub returns-in-None : goal.returns-in-None
returns-in-None c = λ l i. not_bad c.requires.loads c.requires.is i (sym c.item_at.ensures ∙ c.in-None.is)

pub returns-in-Some : goal.returns-in-Some
returns-in-Some c = λ l i. rw c.feed_after-feed.ensures (inside_took c.requires.loads c.requires.is i c.in-Some.item (sym c.item_at.ensures ∙ c.in-Some.is))
