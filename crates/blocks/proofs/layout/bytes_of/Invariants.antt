use Rattle.std.proofs.Common.{◌≡◌, ◌*◌, length, take}
use Rattle.blocks.specs.Blocks.{word_bytes}
use Rattle.variables.specs.Variables.{most_variables}
use Rattle.blocks.proofs.layout.bytes_of.Given as goal

abbrev pub invariant-loop-i : goal.invariant-loop-i
invariant-loop-i l = record { long : length l.bytes ≡ 2 * most_variables; written : take (2 * l.i) l.bytes ≡ word_bytes (take l.i l.words) }
