-- The blanks are the front of fourteen.
use mathlib.Core.Path.{sym, ap, ◌∙◌}
use Prim.Native.Nat.{◌-◌, ◌%◌}
use native.Mathlib.Omega.{arith}
use lib.ListN.{length, replicate}
use lib.Seq.{length-take-le}
use Rattle.space.specs.Moves.{copied}
use Rattle.machine.specs.bridge.Holding.{printed_as}
use Rattle.machine.proofs.Writing.{take-replicate}
use Rattle.whole.specs.Bytes.{blank}
use Rattle.machine.proofs.printing.write_comma.Goals as goal

pub slice_bounds-write-end : goal.slice_bounds-write-end
slice_bounds-write-end c = sym (length-take-le _ (replicate 14 blank) (omega arith))

pub returns : goal.returns
returns c = let e = take-replicate blank (14 - c.args.printer.column % 14) 14 (omega arith) in
    (c.write.ensures.0 ∙ ap (printed_as c.args.printer (length c.args.room.now)) e, c.write.ensures.1 ∙ ap (copied c.args.room.now c.args.printer.written) e)
