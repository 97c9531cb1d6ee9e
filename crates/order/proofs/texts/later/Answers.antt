-- The first of the line beyond the place, or the first from the next line on.
use mathlib.Core.Path.{sym, ◌∙◌}
use mathlib.Core.List.{List}
use Prim.Native.Nat.{ℕ}
use native.Mathlib.Omega.{arith}
use Rattle.order.proofs.Lining.{fails_if, passes_if}
use Rattle.order.proofs.Texting.{body_at, Here, here_lined, not_none, told, reached_next, later_next, later_at, later_over}
use Rattle.order.proofs.texts.later.Goals as goal

pub returns-in_err-line : goal.returns-in_err-line
returns-in_err-line c = rw c.from_residual.ensures (not_none c.requires (sym c.line_at.ensures ∙ c.in_err-line.was))

pub slice_bounds-body-count : goal.slice_bounds-body-count
slice_bounds-body-count c =
    let text : List ℕ = c.args.text.now in
    let here : Here text c.args.place.0 c.in_ok-line.line = here_lined c.requires (sym c.line_at.ensures ∙ c.in_ok-line.was) in
    (told (here)).low

pub slice_bounds-body-start : goal.slice_bounds-body-start
slice_bounds-body-start c =
    let text : List ℕ = c.args.text.now in
    let here : Here text c.args.place.0 c.in_ok-line.line = here_lined c.requires (sym c.line_at.ensures ∙ c.in_ok-line.was) in
    (told (here)).low

pub slice_bounds-body-end : goal.slice_bounds-body-end
slice_bounds-body-end c =
    let text : List ℕ = c.args.text.now in
    let here : Here text c.args.place.0 c.in_ok-line.line = here_lined c.requires (sym c.line_at.ensures ∙ c.in_ok-line.was) in
    let t = told (here) in omega (arith, t.low, t.high)

pub enter-requires : goal.enter-requires
enter-requires c =
    let text : List ℕ = c.args.text.now in
    let here : Here text c.args.place.0 c.in_ok-line.line = here_lined c.requires (sym c.line_at.ensures ∙ c.in_ok-line.was) in
    reached_next (here)

-- in each, l is where it is known
pub returns-then-not-passes : goal.returns-then-not-passes
returns-then-not-passes c =
    let text : List ℕ = c.args.text.now in
    let body : List ℕ = body_at text c.in_ok-line.line in
    let here : Here text c.args.place.0 c.in_ok-line.line = here_lined c.requires (sym c.line_at.ensures ∙ c.in_ok-line.was) in
    let limit : ℕ = c.args.at.0 in
    rw (later_next (here) (limit) (fails_if (body) c.passes.result c.if-not-passes.true-raw c.passes.ensures)) at c.enter.ensures.0

pub enter-requires-in-None : goal.enter-requires-in-None
enter-requires-in-None c =
    let text : List ℕ = c.args.text.now in
    let here : Here text c.args.place.0 c.in_ok-line.line = here_lined c.requires (sym c.line_at.ensures ∙ c.in_ok-line.was) in
    reached_next (here)

pub returns-in-Some : goal.returns-in-Some
returns-in-Some c =
    let text : List ℕ = c.args.text.now in
    let body : List ℕ = body_at text c.in_ok-line.line in
    let here : Here text c.args.place.0 c.in_ok-line.line = here_lined c.requires (sym c.line_at.ensures ∙ c.in_ok-line.was) in
    let limit : ℕ = c.args.at.0 in
    let k = passes_if (body) c.passes.result c.if-not-passes.false-raw c.passes.ensures in
    later_at (here) (limit) k c.in-Some.found
    ((rw c.in-Some.is at c.first_beyond.ensures) k.part k.is)

pub returns-in-None : goal.returns-in-None
returns-in-None c =
    let text : List ℕ = c.args.text.now in
    let body : List ℕ = body_at text c.in_ok-line.line in
    let here : Here text c.args.place.0 c.in_ok-line.line = here_lined c.requires (sym c.line_at.ensures ∙ c.in_ok-line.was) in
    let limit : ℕ = c.args.at.0 in
    let k = passes_if (body) c.passes.result c.if-not-passes.false-raw c.passes.ensures in
    let e = (rw c.in-None.is at c.first_beyond.ensures) k.part k.is in
    rw (later_over (here) (limit) k e) at c.enter-in-None.ensures.0
