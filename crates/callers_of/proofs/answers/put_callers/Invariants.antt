-- The loop keeps what the lines that are left make of the room.
use Rattle.std.proofs.Common.{◌≡◌, ◌+◌, ◌*◌, ◌≤◌, length, drop}
use Rattle.space.specs.Moves.{overlaid}
use Rattle.callers_of.specs.Answers.{caller_lines}
use Rattle.callers_of.proofs.answers.put_callers.Given as goal

abbrev pub invariant-loop-number : goal.invariant-loop-number
invariant-loop-number l =
    (l.end ≤ l.at + 255 * l.number-index)
    × (overlaid l.out l.end (caller_lines (drop l.number-index l.callers)) ≡ overlaid l.initial.out l.at (caller_lines l.callers))
    × (l.end + length (caller_lines (drop l.number-index l.callers)) ≡ l.at + length (caller_lines l.callers))
