use mathlib.Core.Path.{◌≡◌}
use Prim.Native.Nat.{◌+◌, ◌-◌, ◌≤◌}
use lib.ListN.{drop}
use Rattle.strings.specs.Functions.{place_of, found}
use Rattle.functions.proofs.Finding.{First, Second}
use Rattle.functions.proofs.calling.place_of.Given as goal

abbrev pub invariant-loop-place : goal.invariant-loop-place
invariant-loop-place l = (1 ≤ l.place) × (l.place ≤ l.first + 1)
    × (place_of l.start (First l.space l.front l.first l.second) (Second l.space l.front l.first l.second)
    ≡ found l.place (drop (l.place - 1) (First l.space l.front l.first l.second)) (Second l.space l.front l.first l.second))
