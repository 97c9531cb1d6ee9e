-- The loop keeps that the search from the line reached on finds the same.
use Rattle.std.specs.Prelude.{Some}
use mathlib.Core.Path.{sym, ap, ◌∙◌}
use native.Mathlib.Omega.{arith}
use Rattle.loader.specs.Lines.{first_of, has, from_number}
use Rattle.loader.proofs.Extents.{lines_out, walked}
use Rattle.loader.proofs.Found.{digits_end, found_here, from_hit, from_miss}
use Rattle.loader.proofs.lines.find_line.Goals as goal
use Rattle.loader.proofs.lines.find_line.Goals.{in-Some+else-eq, in_default}

pub slice_bounds-number_of-count : goal.slice_bounds-number_of-count
slice_bounds-number_of-count c = (walked _ _ c.loop-at-test.true c.extent_at-extent.ensures).low

pub slice_bounds-number_of-start : goal.slice_bounds-number_of-start
slice_bounds-number_of-start c = (walked _ _ c.loop-at-test.true c.extent_at-extent.ensures).low

pub slice_bounds-number_of-end : goal.slice_bounds-number_of-end
slice_bounds-number_of-end c = let w = walked _ _ c.loop-at-test.true c.extent_at-extent.ensures in omega arith

pub spanned-requires : goal.spanned-requires
spanned-requires c = let w = walked _ _ c.loop-at-test.true c.extent_at-extent.ensures in
    digits_end _ _ w (sym c.number_of.ensures ∙ c.in-Some.is)

pub returns-then-eq : goal.returns-then-eq
returns-then-eq c = let w = walked _ _ c.loop-at-test.true c.extent_at-extent.ensures in
    let q = sym c.number_of.ensures ∙ c.in-Some.is in
    let h = from_hit _ w.lines (ap (has _) q ∙ sym c.eq.ensures ∙ c.if-eq.true) in
    ap Some c.spanned.ensures ∙ sym (found_here _ _ w q) ∙ sym (ap first_of h) ∙ c.loop-at.invariant

pub loop-at-smaller : goal.loop-at-smaller
loop-at-smaller c = let w = walked _ _ c.loop-at-test.true c.extent_at-extent.ensures in omega arith

pub loop-at-preserved : goal.loop-at-preserved
loop-at-preserved c = let w = walked _ _ c.loop-at-test.true c.extent_at-extent.ensures in
    elim c.match-number_of.branch [
      | in-Some+else-eq v ↦
          let q = sym c.number_of.ensures ∙ v.in-Some.is in
          sym (ap first_of (from_miss _ w.lines (ap (has _) q ∙ sym v.eq.ensures ∙ v.if-eq.false))) ∙ c.loop-at.invariant
      | in_default v ↦
          let q = sym c.number_of.ensures ∙ v.in_default.is in
          sym (ap first_of (from_miss _ w.lines (ap (has _) q))) ∙ c.loop-at.invariant
    ]

pub returns : goal.returns
unfolding from_number
returns c = rw (lines_out _ _ c.loop-at-test.false) at c.loop-at.invariant
