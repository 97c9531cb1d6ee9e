-- `runs::string_bytes` adds 64 bytes: the sum stays small.
use Rattle.std.proofs.Common.{◌≤◌, ◌*◌}
use Rattle.vectors.proofs.runs.string_bytes.Given as goal

abbrev pub invariant-loop-len : goal.invariant-loop-len
invariant-loop-len l = l.sum ≤ 255 * l.len-index
