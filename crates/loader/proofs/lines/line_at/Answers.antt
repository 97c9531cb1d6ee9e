-- The line at a place is the one walked there, with the number of its bytes.
use Rattle.std.specs.Prelude.{Some}
use mathlib.Core.Path.{sym, ap, ◌∙◌}
use native.Mathlib.Omega.{arith}
use lib.ListN.{drop_of_length-le}
use Rattle.loader.specs.Lines.{lines_from}
use Rattle.loader.proofs.Extents.{walked}
use Rattle.loader.proofs.Found.{digits_end, found_here}
use Rattle.loader.proofs.lines.line_at.Goals as goal

pub returns-then-text-at : goal.returns-then-text-at
unfolding lines_from
returns-then-text-at c = rw (drop_of_length-le _ c.if-text-at.true)

pub slice_bounds-number_of-count : goal.slice_bounds-number_of-count
slice_bounds-number_of-count c = (walked _ _ c.if-text-at.false c.extent_at-extent.ensures).low

pub slice_bounds-number_of-start : goal.slice_bounds-number_of-start
slice_bounds-number_of-start c = (walked _ _ c.if-text-at.false c.extent_at-extent.ensures).low

pub slice_bounds-number_of-end : goal.slice_bounds-number_of-end
slice_bounds-number_of-end c = let w = walked _ _ c.if-text-at.false c.extent_at-extent.ensures in omega arith

pub spanned-requires : goal.spanned-requires
spanned-requires c = let w = walked _ _ c.if-text-at.false c.extent_at-extent.ensures in
    digits_end _ _ w (sym c.number_of.ensures ∙ c.in_ok-number.was)

pub returns : goal.returns
returns c = let w = walked _ _ c.if-text-at.false c.extent_at-extent.ensures in
    ap Some c.spanned.ensures ∙ sym (found_here _ _ w (sym c.number_of.ensures ∙ c.in_ok-number.was))

pub returns-in_err-number : goal.returns-in_err-number
returns-in_err-number c = let w = walked _ _ c.if-text-at.false c.extent_at-extent.ensures in
    rw (w.lines, sym c.number_of.ensures ∙ c.in_err-number.was) c.from_residual.ensures
