use mathlib.Core.Path.{◌≡◌}
use Prim.Native.Nat.{◌≤◌}
use lib.ListN.{length}
use Rattle.space.specs.Moves.{overlaid}
use Rattle.readings.specs.Lines.{hex_digits}
use Rattle.readings.proofs.lines.with_digits.Given as goal

abbrev pub invariant-loop-i : goal.invariant-loop-i
invariant-loop-i l = (l.i ≤ l.count) × (length l.bytes ≡ 24) × (overlaid l.bytes 7 (hex_digits l.i l.left) ≡ overlaid l.initial.bytes 7 (hex_digits l.count l.bits))

abbrev pub decreases-loop-i : goal.decreases-loop-i
decreases-loop-i l = l.i
