use mathlib.Core.Path.{◌≡◌}
use Prim.Native.Nat.{◌-◌}
use lib.ListN.{length}
use Rattle.loader.specs.Lines.{lines_of}
use Rattle.loader.proofs.Extents.{lines_at}
use Rattle.loader.proofs.Rising.{Rising}
use Rattle.checker.specs.Check.{first_fault, check_of}
use Rattle.checker.proofs.checking.check_recipe.Given as goal

abbrev pub invariant-loop-line : goal.invariant-loop-line
invariant-loop-line l = Rising 0 (lines_at l.text l.at.0) × (first_fault (lines_of l.text) (lines_at l.text l.at.0) ≡ check_of l.text)

abbrev pub decreases-loop-line : goal.decreases-loop-line
decreases-loop-line l = length l.text - l.at.0
