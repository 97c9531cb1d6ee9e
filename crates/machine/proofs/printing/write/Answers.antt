-- What does not fit is not copied, and the printer stays; what fits is copied where the last ended.
use mathlib.Core.Path.{sym}
use native.Mathlib.Omega.{arith}
use borrow.Author.Rules.{rules}
use Rattle.space.proofs.Frames.{copied_past}
use Rattle.machine.proofs.Writing.{printed_full, printed_all}
use Rattle.machine.proofs.printing.write.Goals as goal

pub returns-then-room-at : goal.returns-then-room-at
returns-then-room-at c = (printed_full c.args.printer c.args.room.now c.args.bytes.now (omega arith), sym (copied_past c.args.room.now _ c.args.bytes.now (omega arith)))

pub returns : goal.returns
returns c = (
  rw c.column_after.ensures (printed_all c.args.printer c.args.room.now c.args.bytes.now (omega arith)),
  search rules,
)
