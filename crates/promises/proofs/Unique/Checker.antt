-- The public functions of `checker`.
use mathlib.Core.Path.{refl}
use Rattle.checker.proofs as checker
use Rattle.promises.specs.Calls.{Unique}
use Rattle.promises.proofs.Unique.{same}

pub check_recipe : Unique checker.check_recipe.Kinds.ps checker.check_recipe.Kinds.r checker.check_recipe.Reads.Pre checker.check_recipe.Reads.Post
check_recipe κs a p z z' ws ws' e e' = (same e e', refl)

pub named_by : Unique checker.named_by.Kinds.ps checker.named_by.Kinds.r checker.named_by.Reads.Pre checker.named_by.Reads.Post
named_by κs a p z z' ws ws' e e' = (same e e', refl)
