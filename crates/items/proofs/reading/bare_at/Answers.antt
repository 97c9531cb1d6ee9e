-- The part that is cut is the run, which ends within the line; past the line's end it is empty.
use native.Mathlib.Nat.{add-zero}
use native.Mathlib.Omega.{arith}
use lib.ListN.{drop_of_length-le}
use Rattle.whole.specs.Bytes.{leading}
use Rattle.words.proofs.Runs.{run_within, run_part}
use Rattle.scanner.specs.Runs.{passes}
use Rattle.scanner.specs.declared.runs.Run.TheVariants as run
use Rattle.items.specs.Items.{cut, bare_item}
use Rattle.items.proofs.reading.bare_at.Goals as goal

pub returns-then-line-at : goal.returns-then-line-at
unfolding leading cut bare_item
returns-then-line-at c = rw (drop_of_length-le _ c.if-line-at.true, add-zero) c.ended.ensures

pub slice_bounds-cut_length-end : goal.slice_bounds-cut_length-end
slice_bounds-cut_length-end c = omega (arith, run_within (passes run.Item) _ _ c.run_end-end.ensures (omega arith))

pub returns : goal.returns
unfolding bare_item
returns c = rw (← c.run_end-end.ensures, ← (run_part (passes run.Item) _ _ c.run_end-end.ensures), ← c.cut_length-len.ensures) c.ended-2.ensures
