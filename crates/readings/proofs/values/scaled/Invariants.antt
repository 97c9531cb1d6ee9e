use mathlib.Core.Path.{◌≡◌}
use mathlib.Core.Bool.{false}
use Prim.Native.Nat.{◌+◌, ◌*◌, ◌/◌}
use Rattle.readings.specs.Values.{exactly}
use Rattle.readings.proofs.values.scaled.Given as goal

abbrev pub invariant-sixteens : goal.invariant-sixteens
invariant-sixteens l = l.value ≡ exactly false l.mantissa (16 * l.counter)

abbrev pub invariant-ones : goal.invariant-ones
invariant-ones l = l.value ≡ exactly false l.mantissa (16 * (l.exponent / 16) + l.counter)
