-- The loop keeps that from the byte reached on the column after the bytes is the same.
use mathlib.Core.Path.{sym, ◌∙◌}
use native.Mathlib.Omega.{arith}
use Rattle.machine.proofs.Writing.{column_feed, column_byte, column_out}
use Rattle.machine.proofs.printing.column_after.Goals as goal
use Rattle.machine.proofs.printing.column_after.Goals.{then-byte-eq-LINE_FEED, else-byte-eq-LINE_FEED}

pub loop-byte-preserved : goal.loop-byte-preserved
loop-byte-preserved c = elim c.if-byte-eq-LINE_FEED.branch [
  | then-byte-eq-LINE_FEED w ↦ rw w.count-is (omega arith, column_feed c.loop-byte.count c.args.bytes.now c.loop-byte.byte-index c.loop-byte-test.true w.if-byte-eq-LINE_FEED.true ∙ c.loop-byte.invariant.1)
  | else-byte-eq-LINE_FEED w ↦ rw w.count-is (omega arith, column_byte c.loop-byte.count c.args.bytes.now c.loop-byte.byte-index c.loop-byte-test.true w.if-byte-eq-LINE_FEED.false ∙ c.loop-byte.invariant.1)
]

pub returns : goal.returns
returns c = sym (column_out _ _ _ c.loop-byte-test.false) ∙ c.loop-byte.invariant.1
