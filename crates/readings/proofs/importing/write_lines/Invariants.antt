use mathlib.Core.Path.{◌≡◌}
use mathlib.Core.List.{◌++◌}
use lib.ListN.{length, drop}
use Rattle.readings.specs.bridge.Groups.{lines_to}
use Rattle.readings.proofs.importing.write_lines.Given as goal

abbrev pub invariant-loop-group : goal.invariant-loop-group
invariant-loop-group l = (l.at ≡ length (lines_to l.file l.group-index)) × (l.out ≡ lines_to l.file l.group-index ++ drop l.at l.initial.out) × (length l.out ≡ length l.initial.out)
