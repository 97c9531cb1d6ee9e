-- The loop keeps that the rows so far tell the lines so far, and the lines from the one reached on are left.
use Rattle.std.specs.Prelude.{Some}
use mathlib.Core.Path.{◌≡◌, sym, ◌∙◌, ap}
use native.Mathlib.Omega.{arith}
use Rattle.loader.specs.Lines.{line_at}
use Rattle.loader.proofs.Spans.{Spanned}
use Rattle.rows.specs.bridge.Rows.{verdict_of}
use Rattle.rows.proofs.Filling.{filled_none, filled_few, filled_tabled, filled_spanned, filled_small, filled_room, filled_on}
use Rattle.rows.proofs.making.make_rows.Goals as goal

pub loop-span-init : goal.loop-span-init
loop-span-init c = filled_none _ _ c.requires.1

pub overflow_cast-rows : goal.overflow_cast-rows
overflow_cast-rows c = omega (arith, filled_few c.requires.0 c.loop-span.invariant)

pub bounds-rows-0 : goal.bounds-rows-0
bounds-rows-0 c = omega (arith, c.loop-span.invariant.long)

-- where no line is left
pub returns : goal.returns
returns c = filled_tabled c.requires.0 c.loop-span.invariant (sym c.line_at.ensures ∙ c.in_default.is)

pub slice_bounds-judge-count : goal.slice_bounds-judge-count
slice_bounds-judge-count c =
    let found : line_at c.args.text.now c.loop-span.at ≡ Some c.in-Some.span = sym c.line_at.ensures ∙ c.in-Some.is in
    let at_line : Spanned c.args.text.now c.loop-span.at.0 c.in-Some.span = filled_spanned c.requires.0 c.loop-span.invariant found in
    (at_line).low

pub slice_bounds-judge-start : goal.slice_bounds-judge-start
slice_bounds-judge-start c =
    let found : line_at c.args.text.now c.loop-span.at ≡ Some c.in-Some.span = sym c.line_at.ensures ∙ c.in-Some.is in
    let at_line : Spanned c.args.text.now c.loop-span.at.0 c.in-Some.span = filled_spanned c.requires.0 c.loop-span.invariant found in
    (at_line).low

pub slice_bounds-judge-end : goal.slice_bounds-judge-end
slice_bounds-judge-end c =
    let found : line_at c.args.text.now c.loop-span.at ≡ Some c.in-Some.span = sym c.line_at.ensures ∙ c.in-Some.is in
    let at_line : Spanned c.args.text.now c.loop-span.at.0 c.in-Some.span = filled_spanned c.requires.0 c.loop-span.invariant found in
    (at_line).high

pub put_row-requires : goal.put_row-requires
put_row-requires c =
    let found : line_at c.args.text.now c.loop-span.at ≡ Some c.in-Some.span = sym c.line_at.ensures ∙ c.in-Some.is in
    (filled_room c.requires.0 c.loop-span.invariant (found), filled_small c.requires.0 c.loop-span.invariant (found))

pub overflow_add-row : goal.overflow_add-row
overflow_add-row c = omega (arith, filled_few c.requires.0 c.loop-span.invariant)

pub loop-span-smaller : goal.loop-span-smaller
loop-span-smaller c =
    let found : line_at c.args.text.now c.loop-span.at ≡ Some c.in-Some.span = sym c.line_at.ensures ∙ c.in-Some.is in
    let at_line : Spanned c.args.text.now c.loop-span.at.0 c.in-Some.span = filled_spanned c.requires.0 c.loop-span.invariant found in
    let s = at_line in omega (arith, s.onward, s.inside)

pub loop-span-preserved : goal.loop-span-preserved
loop-span-preserved c =
    let found : line_at c.args.text.now c.loop-span.at ≡ Some c.in-Some.span = sym c.line_at.ensures ∙ c.in-Some.is in
    rw c.put_row.ensures
    (filled_on c.requires.0 c.loop-span.invariant (found) (c.verdict_of-verdict.ensures ∙ ap verdict_of c.judge.ensures))
