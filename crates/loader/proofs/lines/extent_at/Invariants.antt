use mathlib.Core.Path.{◌≡◌}
use lib.ListN.{drop}
use Rattle.loader.specs.Lines.{extent_at}
use Rattle.loader.proofs.lines.extent_at.Given as goal

abbrev pub invariant-loop-at : goal.invariant-loop-at
invariant-loop-at l = extent_at l.at (drop l.at l.text) ≡ extent_at l.start.0 (drop l.start.0 l.text)
