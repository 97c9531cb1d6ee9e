-- The lines so far and the room left are the room; the first line that has no room shows that all have none (`room_for_next`).
use mathlib.Core.Path.{sym, ap}
use Prim.Native.Nat.{◌/◌, ◌<◌}
use native.Mathlib.Omega.{arith}
use lib.Arith.{lt→nleb}
use lib.Ieee.Bits.{is_false}
use lib.ListN.{length}
use Rattle.readings.specs.bridge.Groups.{lines_of_groups}
use Rattle.readings.proofs.Groups.{group_line, lines_none, length_next, room_for_next}
use Rattle.readings.proofs.importing.lines_fit.Goals as goal

pub loop-group-init : goal.loop-group-init
loop-group-init c = omega (arith, ap length (lines_none c.args.file.now))

pub returns-then-left-len : goal.returns-then-left-len
returns-then-left-len c =
    let file = c.args.file.now in
    let inside : c.loop-group.group-index < length file / 4 = omega (arith, c.loop-group-test.true, c.as_chunks.ensures.front_len) in
    let line = rw (group_line file c.loop-group.group-index c.as_chunks.ensures.front inside) at c.line_for-len.ensures in
    let less : c.args.room < length (lines_of_groups file)
    = omega (arith, room_for_next file c.loop-group.group-index (length file / 4) inside, line.1, c.if-left-len.true, c.loop-group.invariant) in
    sym (is_false _ (lt→nleb (length (lines_of_groups file)) c.args.room less))

pub loop-group-preserved : goal.loop-group-preserved
loop-group-preserved c =
    let file = c.args.file.now in
    let inside : c.loop-group.group-index < length file / 4 = omega (arith, c.loop-group-test.true, c.as_chunks.ensures.front_len) in
    let line = rw (group_line file c.loop-group.group-index c.as_chunks.ensures.front inside) at c.line_for-len.ensures in
    omega (arith, length_next file c.loop-group.group-index, line.1, c.if-left-len.false, c.loop-group.invariant)
