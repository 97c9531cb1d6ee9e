use mathlib.Core.Path.{◌≡◌}
use Prim.Native.Nat.{◌-◌}
use lib.ListN.{length}
use Rattle.loader.specs.Lines.{lines_of, first_of, from_number}
use Rattle.loader.proofs.Extents.{lines_at}
use Rattle.loader.proofs.lines.find_line.Given as goal

abbrev pub invariant-loop-at : goal.invariant-loop-at
invariant-loop-at l = first_of (from_number l.number.0 (lines_at l.text l.at.0)) ≡ first_of (from_number l.number.0 (lines_of l.text))

abbrev pub decreases-loop-at : goal.decreases-loop-at
decreases-loop-at l = length l.text - l.at.0
