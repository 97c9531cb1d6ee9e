use mathlib.Core.Path.{◌≡◌}
use Prim.Native.Nat.{◌+◌, ◌*◌, ◌≤◌}
use lib.ListN.{length}
use Rattle.statements.proofs.Parts.{weight_at}
use Rattle.reader.specs.Lines.{judged_of}
use Rattle.reader.specs.bridge.Walking.{walk_from}
use Rattle.reader.proofs.Judging.{verdict_by}
use Rattle.reader.proofs.lines.judge.Given as goal

abbrev pub invariant-loop-read : goal.invariant-loop-read
invariant-loop-read l = (4 * l.walk.waiting + weight_at l.line l.walk.at.0 ≤ 4 * length l.line + 4)
    × (verdict_by l.tally (walk_from l.line l.walk.first l.walk.waiting l.walk.at.0) ≡ judged_of l.line)

abbrev pub decreases-loop-read : goal.decreases-loop-read
decreases-loop-read l = weight_at l.line l.walk.at.0
