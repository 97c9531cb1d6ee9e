-- The public functions of `operators`.
use mathlib.Core.Path.{refl}
use Rattle.operators.proofs as operators
use Rattle.promises.specs.Calls.{Unique}
use Rattle.promises.proofs.Unique.{same}

pub turn_of : Unique operators.turn_of.Kinds.ps operators.turn_of.Kinds.r operators.turn_of.Reads.Pre operators.turn_of.Reads.Post
turn_of κs a p z z' ws ws' e e' = (same e e', refl)
