-- The public functions of `functions`.
use mathlib.Core.Path.{refl}
use Rattle.functions.proofs as functions
use Rattle.promises.specs.Calls.{Unique}
use Rattle.promises.proofs.Unique.{same}

pub take_argument : Unique functions.take_argument.Kinds.ps functions.take_argument.Kinds.r functions.take_argument.Reads.Pre functions.take_argument.Reads.Post
take_argument κs a p z z' ws ws' e e' = (same e e', refl)
