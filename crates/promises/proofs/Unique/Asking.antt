-- The public functions of `asking`.
use mathlib.Core.Path.{refl}
use Rattle.asking.proofs as asking
use Rattle.promises.specs.Calls.{Unique}
use Rattle.promises.proofs.Unique.{same}

pub ask : Unique asking.ask.Kinds.ps asking.ask.Kinds.r asking.ask.Reads.Pre asking.ask.Reads.Post
ask κs a p z z' ws ws' e e' = (same e e', refl)
