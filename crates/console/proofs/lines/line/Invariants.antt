-- The fields that are left still come after the text.
use Rattle.std.proofs.Common.{◌≡◌, drop}
use Rattle.console.proofs.Writing.{with_fields}
use Rattle.console.proofs.lines.line.Given as goal

abbrev pub invariant-loop-number : goal.invariant-loop-number
invariant-loop-number l = with_fields l.text (drop l.number-index l.numbers) ≡ with_fields l.initial.text l.numbers
