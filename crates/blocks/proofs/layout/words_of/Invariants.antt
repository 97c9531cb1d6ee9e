use Rattle.std.proofs.Common.{◌≡◌, length, take}
use Rattle.blocks.specs.Blocks.{words_from}
use Rattle.variables.specs.Variables.{most_variables}
use Rattle.blocks.proofs.layout.words_of.Given as goal

abbrev pub invariant-loop-i : goal.invariant-loop-i
invariant-loop-i l = record { long : length l.word-items ≡ most_variables; read : take l.i l.word-items ≡ words_from l.i l.bytes }
