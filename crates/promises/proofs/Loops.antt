-- What a FOR does once its variable is set and an older loop of it is dropped.
use mathlib.Core.Bool.{cond}
use Prim.Native.Nat.{ℕ}
use Rattle.words.specs.Names.{Telling}
use Rattle.machine.specs.Machine.{Position, loop, Machine, passed}
use Rattle.machine.specs.Order.{next_for}
use Rattle.turns.specs.Steps.{Next, goes_on, pushed, cleared, skipped}

abbrev pub looped : Telling → ℕ → Position → ℕ → ℕ → ℕ → Machine → Next
looped name at after start limit step m =
    cond (passed start limit step)
    (skipped name (next_for at after.lines) (cleared name m))
    (pushed (cleared name m) (loop name limit step after) (λ o. goes_on o after))
