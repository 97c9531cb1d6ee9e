use mathlib.Core.Path.{◌≡◌}
use Prim.Native.Nat.{◌+◌}
use lib.ListN.{length}
use Rattle.readings.specs.bridge.Groups.{lines_to}
use Rattle.readings.proofs.importing.lines_fit.Given as goal

abbrev pub invariant-loop-group : goal.invariant-loop-group
invariant-loop-group l = (length (lines_to l.file l.group-index) + l.left ≡ l.room)
