-- The public function of this crate: two answers that its contract allows are equal.
use mathlib.Core.Path.{refl}
use Rattle.calls.specs.Calls.{Unique}
use Rattle.calls.proofs.Same.{same}
use Rattle.bounding.proofs.bounds.bound_of.Kinds as bound_of_kinds
use Rattle.bounding.proofs.bounds.bound_of.Reads as bound_of_reads

pub bound_of : Unique bound_of_kinds.ps bound_of_kinds.r bound_of_reads.Pre bound_of_reads.Post
bound_of κs a p z z' ws ws' e e' = (same e e', refl)
