-- The public functions of `records`.
use mathlib.Core.Path.{refl}
use Rattle.records.proofs as records
use Rattle.sheet_promises.specs.Calls.{Unique}
use Rattle.sheet_promises.proofs.Unique.{same}

pub record_of : Unique records.record_of.Kinds.ps records.record_of.Kinds.r records.record_of.Reads.Pre records.record_of.Reads.Post
record_of κs a p z z' ws ws' e e' = (same e e', refl)
