use mathlib.Core.Path.{◌≡◌}
use Prim.Native.Nat.{◌+◌, ◌≤◌}
use lib.ListN.{drop}
use Rattle.machine.specs.Machine.{column_after}
use Rattle.machine.proofs.printing.column_after.Given as goal

abbrev pub invariant-loop-byte : goal.invariant-loop-byte
invariant-loop-byte l = (l.count ≤ l.column + l.byte-index) × (column_after l.count (drop l.byte-index l.bytes) ≡ column_after l.column l.bytes)
