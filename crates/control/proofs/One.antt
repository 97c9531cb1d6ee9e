-- A FOR without STEP counts by 1.
use mathlib.Core.Path.{◌≡◌, refl}
use Rattle.grammar.specs.Trees.{number}
use Rattle.variables.specs.Strings.{whole, Room, value}
use Rattle.variables.specs.Variables.{Variables}
use Rattle.operators.specs.Values.{value_of}

-- the step that is left out
pub one : (vars : Variables) (room : Room) → value_of (number 1) vars room ≡ value (whole 1) room
unfolding value_of
one vars room = refl
