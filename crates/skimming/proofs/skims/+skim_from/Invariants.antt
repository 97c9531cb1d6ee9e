-- The loop's marks are those of what is open, and what is left of the whole from a turn on is the answer. Each turn and each call goes on
-- with less left to read.
use Rattle.std.proofs.Common.{◌≡◌, ◌≤◌, List, length}
use Rattle.grammar.specs.Formulas.{enough}
use Rattle.skimming.specs.bridge.Flat.{Opened, want_at}
use Rattle.skimming.specs.bridge.Marks.{First}
use Rattle.skimming.specs.bridge.Remaining.{weight}
use Rattle.skimming.proofs.Holding.{Held}
use Rattle.skimming.proofs.skims.+skim_from.Given as goal

abbrev pub decreases-skim_from : goal.decreases-skim_from
decreases-skim_from l = weight l.line.now l.ahead

abbrev pub invariant-loop-ahead : goal.invariant-loop-ahead
invariant-loop-ahead l =
    (length l.marks ≡ 255)
    × (l.depth ≤ 255)
    × (weight l.line l.here ≤ weight l.line l.initial.here)
    × ((os : List Opened) → First l.mark os
    → Held l.line l.phase l.marks l.depth l.here (want_at (enough l.line) l.line os 0 l.initial.here.token l.initial.here.next))

abbrev pub decreases-loop-ahead : goal.decreases-loop-ahead
decreases-loop-ahead l = weight l.line l.here
