-- The loop's invariant: the lines passed hold no statement, so those from the line reached on have the same.
use mathlib.Core.Path.{refl, sym, ◌∙◌}
use native.Mathlib.Omega.{arith}
use Rattle.words.specs.Places.{place}
use Rattle.order.proofs.Texting.{Here, here_reached, told, reached_next, left_here, enter_over, enter_at, enter_next}
use Rattle.order.proofs.texts.enter.Goals as goal

pub loop-line-init : goal.loop-line-init
loop-line-init c = (c.requires, (refl, omega arith))

pub returns : goal.returns
returns c = (sym c.loop-line.invariant.1.0 ∙ enter_over c.loop-line.invariant.0 (sym c.line_at.ensures ∙ c.in_default.is), omega arith)

pub slice_bounds-passes-count : goal.slice_bounds-passes-count
slice_bounds-passes-count c =
    let here : Here c.args.text.now c.loop-line.at.0 c.in-Some.line = here_reached c.loop-line.invariant.0 (sym c.line_at.ensures ∙ c.in-Some.is) in
    (told (here)).low

pub slice_bounds-passes-start : goal.slice_bounds-passes-start
slice_bounds-passes-start c =
    let here : Here c.args.text.now c.loop-line.at.0 c.in-Some.line = here_reached c.loop-line.invariant.0 (sym c.line_at.ensures ∙ c.in-Some.is) in
    (told (here)).low

pub slice_bounds-passes-end : goal.slice_bounds-passes-end
slice_bounds-passes-end c =
    let here : Here c.args.text.now c.loop-line.at.0 c.in-Some.line = here_reached c.loop-line.invariant.0 (sym c.line_at.ensures ∙ c.in-Some.is) in
    let t = told (here) in omega (arith, t.low, t.high)

-- in each, l is where it is known
pub returns-then-passes : goal.returns-then-passes
returns-then-passes c =
    let here : Here c.args.text.now c.loop-line.at.0 c.in-Some.line = here_reached c.loop-line.invariant.0 (sym c.line_at.ensures ∙ c.in-Some.is) in (
      rw (← c.loop-line.invariant.1.0) (enter_at (here) (rw c.if-passes.true at c.passes.ensures)),
      omega (arith, left_here (here) (place 0), c.loop-line.invariant.1.1),
    )

pub loop-line-smaller : goal.loop-line-smaller
loop-line-smaller c =
    let here : Here c.args.text.now c.loop-line.at.0 c.in-Some.line = here_reached c.loop-line.invariant.0 (sym c.line_at.ensures ∙ c.in-Some.is) in
    let t = told (here) in omega (arith, t.onward, t.inside)

pub loop-line-preserved : goal.loop-line-preserved
loop-line-preserved c =
    let here : Here c.args.text.now c.loop-line.at.0 c.in-Some.line = here_reached c.loop-line.invariant.0 (sym c.line_at.ensures ∙ c.in-Some.is) in (
      reached_next (here),
      (enter_next (here) (rw c.if-passes.false at c.passes.ensures) ∙ c.loop-line.invariant.1.0, omega (arith, (told (here)).onward, c.loop-line.invariant.1.1)),
    )
