use mathlib.Core.Path.{◌≡◌}
use Prim.Native.Nat.{◌+◌, ◌*◌, ◌-◌}
use lib.ListN.{drop}
use Rattle.index.specs.Asking.{start_among, line_in}
use Rattle.index.proofs.asking.line_in.Given as goal

abbrev pub invariant-loop-row : goal.invariant-loop-row
invariant-loop-row l = start_among l.number.0 (l.row-end - l.row) (drop (1 + 6 * l.row) l.index) ≡ line_in l.index l.number
