use mathlib.Core.Path.{◌≡◌}
use Prim.Native.Nat.{◌*◌, ◌-◌}
use lib.ListN.{drop}
use Rattle.index.specs.bridge.Noting.{named_among}
use Rattle.index.proofs.pairs.is_noted.Given as goal

abbrev pub invariant-loop-i : goal.invariant-loop-i
invariant-loop-i l = named_among l.named (l.count - l.i) (drop (2 * l.i) l.pairs) ≡ named_among l.named (l.count - l.from) (drop (2 * l.from) l.pairs)
