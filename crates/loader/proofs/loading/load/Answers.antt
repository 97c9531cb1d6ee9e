-- The loop keeps that the lines from the one reached on load as the text does.
use mathlib.Core.Path.{sym, ◌∙◌}
use native.Mathlib.Omega.{arith}
use borrow.Author.Tests.{lt-ltb, le-ltb}
use lib.ListN.{length}
use Rattle.loader.specs.Loading.{load_lines, load_of, longest_text}
use Rattle.loader.proofs.Extents.{passed, lines_out, walked, walked_size}
use Rattle.loader.proofs.Rising.{load_good, load_bad, judged_good, judged_bad}
use Rattle.loader.proofs.loading.load.Goals as goal

pub returns-then-text-gt-LONGEST_TEXT : goal.returns-then-text-gt-LONGEST_TEXT
unfolding load_of
returns-then-text-gt-LONGEST_TEXT c = rw (lt-ltb longest_text (length c.args.text.now) c.if-text-gt-LONGEST_TEXT.true)

pub loop-at-init : goal.loop-at-init
unfolding load_of
loop-at-init c = rw (le-ltb longest_text (length c.args.text.now) c.if-text-gt-LONGEST_TEXT.false)

pub slice_bounds-judge-count : goal.slice_bounds-judge-count
slice_bounds-judge-count c = (walked _ _ c.loop-at-test.true c.extent_at-extent.ensures).low

pub slice_bounds-judge-start : goal.slice_bounds-judge-start
slice_bounds-judge-start c = (walked _ _ c.loop-at-test.true c.extent_at-extent.ensures).low

pub slice_bounds-judge-end : goal.slice_bounds-judge-end
slice_bounds-judge-end c = let w = walked _ _ c.loop-at-test.true c.extent_at-extent.ensures in omega arith

pub overflow_add-place : goal.overflow_add-place
overflow_add-place c = let w = walked _ _ c.loop-at-test.true c.extent_at-extent.ensures in
    let s = (passed c.args.text.now c.loop-at.at.0 c.extent_at-extent.result).bytes in
    let k = judged_bad _ _ s (sym c.judge.ensures ∙ c.in-Err.is) in omega (arith, walked_size _ _ w)

pub returns-in-Err : goal.returns-in-Err
returns-in-Err c = let w = walked _ _ c.loop-at-test.true c.extent_at-extent.ensures in
    sym (load_bad _ _ w.lines (sym c.judge.ensures ∙ c.in-Err.is)) ∙ c.loop-at.invariant

pub overflow_add-before : goal.overflow_add-before
overflow_add-before c = let s = (passed c.args.text.now c.loop-at.at.0 c.extent_at-extent.result).bytes in
    let a = judged_good _ _ s (sym c.judge.ensures ∙ c.in-Ok.is) in omega (arith, a.few)

pub overflow_add-floor : goal.overflow_add-floor
overflow_add-floor c = let s = (passed c.args.text.now c.loop-at.at.0 c.extent_at-extent.result).bytes in
    let a = judged_good _ _ s (sym c.judge.ensures ∙ c.in-Ok.is) in omega (arith, a.value, a.sound.small)

pub loop-at-smaller : goal.loop-at-smaller
loop-at-smaller c = let w = walked _ _ c.loop-at-test.true c.extent_at-extent.ensures in omega arith

pub loop-at-preserved : goal.loop-at-preserved
loop-at-preserved c = let w = walked _ _ c.loop-at-test.true c.extent_at-extent.ensures in
    sym (load_good _ _ w.lines (sym c.judge.ensures ∙ c.in-Ok.is)) ∙ c.loop-at.invariant

pub returns : goal.returns
unfolding load_lines
returns c = rw (lines_out _ _ c.loop-at-test.false) at c.loop-at.invariant
