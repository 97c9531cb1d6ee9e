-- The room holds the lines so far, and behind them what it held; each line is copied in after them (`line_written`).
use mathlib.Core.Path.{refl, sym, ap}
use mathlib.Core.List.{List, ◌++◌}
use Prim.Native.Nat.{ℕ, ◌+◌, ◌/◌, ◌≤◌, ◌<◌}
use native.Mathlib.Omega.{arith}
use lib.ListN.{length, drop}
use Rattle.readings.proofs.Groups.{group_line, lines_none, room_for_next, line_written}
use Rattle.readings.proofs.importing.write_lines.Goals as goal

pub loop-group-init : goal.loop-group-init
loop-group-init c = let none = sym (lines_none c.args.file.now) in
    (ap length none, ap (λ (l : List ℕ). l ++ drop 0 c.args.out.now) none, refl)

pub loop-group-preserved : goal.loop-group-preserved
loop-group-preserved c =
    let file = c.args.file.now in
    let k = c.loop-group.group-index in
    let inside : k < length file / 4 = omega (arith, c.loop-group-test.true, c.as_chunks.ensures.front_len) in
    let line = rw (group_line file k c.as_chunks.ensures.front inside) at c.line_for-line.ensures in
    let within : c.loop-group.at + c.line_for-line.result.len ≤ length c.args.out.now
    = omega (arith, room_for_next file k (length file / 4) inside, line.1, c.loop-group.invariant.0, c.requires) in
    line_written file c.args.out.now c.loop-group.out c.line_for-line.result.bytes c.copy_in.new.space k
    c.loop-group.at c.line_for-line.result.len
    c.loop-group.invariant.0 c.loop-group.invariant.1 c.loop-group.invariant.2 line.0 line.1 within c.copy_in.ensures
