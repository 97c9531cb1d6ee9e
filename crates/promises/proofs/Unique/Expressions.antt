-- The public functions of `expressions`.
use mathlib.Core.Path.{refl}
use Rattle.expressions.proofs as expressions
use Rattle.promises.specs.Calls.{Unique}
use Rattle.promises.proofs.Unique.{same}

pub formula_at : Unique expressions.formula_at.Kinds.ps expressions.formula_at.Kinds.r expressions.formula_at.Reads.Pre expressions.formula_at.Reads.Post
formula_at κs a p z z' ws ws' e e' = (same e e', refl)

pub of_kind : Unique expressions.of_kind.Kinds.ps expressions.of_kind.Kinds.r expressions.of_kind.Reads.Pre expressions.of_kind.Reads.Post
of_kind κs a p z z' ws ws' e e' = (same e e', refl)

pub is_whole : Unique expressions.is_whole.Kinds.ps expressions.is_whole.Kinds.r expressions.is_whole.Reads.Pre expressions.is_whole.Reads.Post
is_whole κs a p z z' ws ws' e e' = (same e e', refl)

pub is_some : Unique expressions.is_some.Kinds.ps expressions.is_some.Kinds.r expressions.is_some.Reads.Pre expressions.is_some.Reads.Post
is_some κs a p z z' ws ws' e e' = (same e e', refl)

pub is_of : Unique expressions.is_of.Kinds.ps expressions.is_of.Kinds.r expressions.is_of.Reads.Pre expressions.is_of.Reads.Post
is_of κs a p z z' ws ws' e e' = (same e e', refl)

pub past_nots : Unique expressions.past_nots.Kinds.ps expressions.past_nots.Kinds.r expressions.past_nots.Reads.Pre expressions.past_nots.Reads.Post
past_nots κs a p z z' ws ws' e e' = (same e e', refl)
