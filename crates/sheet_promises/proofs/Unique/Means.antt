-- The public functions of `means`.
use mathlib.Core.Path.{refl}
use Rattle.means.proofs as means
use Rattle.sheet_promises.specs.Calls.{Unique}
use Rattle.sheet_promises.proofs.Unique.{same}

pub mean_of : Unique means.mean_of.Kinds.ps means.mean_of.Kinds.r means.mean_of.Reads.Pre means.mean_of.Reads.Post
mean_of κs a p z z' ws ws' e e' = (same e e', refl)
