use mathlib.Core.Path.{◌≡◌}
use Prim.Native.Nat.{◌-◌}
use lib.ListN.{length}
use Rattle.loader.specs.Loading.{load_lines, load_of}
use Rattle.loader.proofs.Extents.{lines_at}
use Rattle.loader.proofs.loading.load.Given as goal

abbrev pub invariant-loop-at : goal.invariant-loop-at
invariant-loop-at l = load_lines l.before l.floor (lines_at l.text l.at.0) ≡ load_of l.text

abbrev pub decreases-loop-at : goal.decreases-loop-at
decreases-loop-at l = length l.text - l.at.0
