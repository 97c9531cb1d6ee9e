-- The public functions of `skimming`.
use mathlib.Core.Path.{refl}
use Rattle.skimming.proofs as skimming
use Rattle.promises.specs.Calls.{Unique}
use Rattle.promises.proofs.Unique.{same}

pub skim : Unique skimming.skim.Kinds.ps skimming.skim.Kinds.r skimming.skim.Reads.Pre skimming.skim.Reads.Post
skim κs a p z z' ws ws' e e' = (same e e', refl)
