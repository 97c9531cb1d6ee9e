use mathlib.Core.Path.{◌≡◌}
use lib.ListN.{drop}
use Rattle.sheet.specs.bridge.Taking.{taken}
use Rattle.sheet.proofs.taking.take.Given as goal

abbrev pub invariant-loop-byte : goal.invariant-loop-byte
invariant-loop-byte l = taken l.longer (drop l.byte-index l.part) ≡ taken l.fn.sheet l.part
