use mathlib.Core.Path.{◌≡◌}
use mathlib.Core.List.{◌++◌, map}
use Prim.Native.Nat.{◌-◌, ◌≤◌}
use lib.ListN.{length, take, replicate}
use Rattle.words.specs.Classes.{capital_of}
use Rattle.words.specs.Names.{name_width, name_bytes, telling}
use Rattle.words.proofs.names.telling_of.Given as goal

abbrev pub invariant-loop-count : goal.invariant-loop-count
invariant-loop-count l = let t = telling (map capital_of (name_bytes l.line l.name)) in
    (l.count ≤ length t) × (l.telling ≡ take l.count t ++ replicate (name_width - l.count) 0)
