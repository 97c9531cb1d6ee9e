use mathlib.Core.Path.{◌≡◌}
use lib.ListN.{take}
use Rattle.whole.specs.Digits.{is_digit, value_from, capped}
use Rattle.whole.proofs.Reading.{Passed}
use Rattle.whole.proofs.digits.leading_digits.Given as goal

abbrev pub invariant-loop-count : goal.invariant-loop-count
invariant-loop-count l = Passed is_digit l.bytes l.count × (l.magnitude ≡ capped (value_from 0 (take l.count l.bytes)))
