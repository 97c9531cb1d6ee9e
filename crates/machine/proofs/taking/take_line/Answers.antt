-- By the extent of the line that begins there.
use mathlib.Core.Path.{sym}
use Prim.Native.Nat.{◌<◌}
use native.Mathlib.Omega.{arith}
use lib.ListN.{length}
use Rattle.loader.proofs.Extents.{walked}
use Rattle.machine.proofs.Takes.{taken_none, taken_long, taken_line}
use Rattle.machine.proofs.taking.take_line.Goals as goal

pub returns-then-input-start : goal.returns-then-input-start
returns-then-input-start c = sym (taken_none _ _ (omega (arith, c.if-input-start.true)))

pub overflow_sub-end : goal.overflow_sub-end
overflow_sub-end c =
    let some : c.args.from.0 < length c.args.input.now = omega (arith, c.if-input-start.false) in
    (walked _ _ (some) c.extent_at-extent.ensures).low

pub returns-then-end-start-gt-LONGEST_INPUT_LINE : goal.returns-then-end-start-gt-LONGEST_INPUT_LINE
returns-then-end-start-gt-LONGEST_INPUT_LINE c =
    let some : c.args.from.0 < length c.args.input.now = omega (arith, c.if-input-start.false) in
    sym (taken_long _ _ (some) c.extent_at-extent.ensures c.if-end-start-gt-LONGEST_INPUT_LINE.true)

pub returns : goal.returns
returns c =
    let some : c.args.from.0 < length c.args.input.now = omega (arith, c.if-input-start.false) in
    sym (taken_line _ _ (some) c.extent_at-extent.ensures c.if-end-start-gt-LONGEST_INPUT_LINE.false)
