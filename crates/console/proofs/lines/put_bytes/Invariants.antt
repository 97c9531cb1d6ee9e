-- The bytes that are left still come after the text.
use Rattle.std.proofs.Common.{◌≡◌, drop}
use Rattle.whole.specs.Texts.{with_bytes}
use Rattle.console.proofs.lines.put_bytes.Given as goal

abbrev pub invariant-loop-byte : goal.invariant-loop-byte
invariant-loop-byte l = with_bytes l.longer (drop l.byte-index l.bytes) ≡ with_bytes l.initial.longer l.bytes
