-- The next byte goes first (`byte_first`).
use Rattle.std.proofs.Common.{ap, sym, ◌∙◌, drop_of_length-le}
use Rattle.whole.specs.Texts.{with_bytes}
use Rattle.console.proofs.Writing.{byte_first}
use Rattle.console.proofs.lines.put_bytes.Goals as goal

pub loop-byte-preserved : goal.loop-byte-preserved
loop-byte-preserved c = rw c.put-longer.ensures (byte_first _ _ _ c.loop-byte-test.true ∙ c.loop-byte.invariant)

pub returns : goal.returns
unfolding with_bytes
returns c = ap (with_bytes _) (sym (drop_of_length-le _ c.loop-byte-test.false)) ∙ c.loop-byte.invariant
