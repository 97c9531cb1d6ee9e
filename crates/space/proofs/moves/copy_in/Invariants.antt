-- The loop keeps what laying the bytes that are left makes of the slice.
use Rattle.std.proofs.Common.{◌≡◌, ◌+◌, drop}
use Rattle.space.specs.Moves.{overlaid}
use Rattle.space.proofs.moves.copy_in.Given as goal

abbrev pub invariant-loop-i : goal.invariant-loop-i
invariant-loop-i l = overlaid l.space (l.to.0 + l.i) (drop l.i l.bytes) ≡ overlaid l.initial.space l.to.0 l.bytes
