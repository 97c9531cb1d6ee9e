-- The value is that of the digits passed, and within the limit.
use Rattle.std.proofs.Common.{◌≡◌, ◌≤◌, take}
use Rattle.whole.specs.Digits.{value_from}
use Rattle.console.proofs.arguments.value_up_to.Given as goal

abbrev pub invariant-loop-digit : goal.invariant-loop-digit
invariant-loop-digit l = (l.value ≤ l.most) × (l.value ≡ value_from 0 (take l.digit-index l.digits))
