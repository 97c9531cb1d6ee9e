-- The public functions of this crate that ask nothing: two answers that a contract allows are equal, and so is what the lent memory holds after them.
use mathlib.Core.Path.{refl}
use Rattle.calls.specs.Calls.{Unique}
use Rattle.calls.proofs.Same.{same, pair}
use Rattle.index.proofs.making.index_of.Kinds as index_of_kinds
use Rattle.index.proofs.making.index_of.Reads as index_of_reads
use Rattle.index.proofs.making.is_index_of.Kinds as is_index_of_kinds
use Rattle.index.proofs.making.is_index_of.Reads as is_index_of_reads
use Rattle.index.proofs.asking.line_in.Kinds as line_in_kinds
use Rattle.index.proofs.asking.line_in.Reads as line_in_reads
use Rattle.index.proofs.asking.callers_in.Kinds as callers_in_kinds
use Rattle.index.proofs.asking.callers_in.Reads as callers_in_reads

pub index_of : Unique index_of_kinds.ps index_of_kinds.r index_of_reads.Pre index_of_reads.Post
index_of κs a p z z' ws ws' e e' = (same e.0 e'.0, pair refl (pair (same e.1 e'.1) refl))

pub is_index_of : Unique is_index_of_kinds.ps is_index_of_kinds.r is_index_of_reads.Pre is_index_of_reads.Post
is_index_of κs a p z z' ws ws' e e' = (same e e', refl)

pub line_in : Unique line_in_kinds.ps line_in_kinds.r line_in_reads.Pre line_in_reads.Post
line_in κs a p z z' ws ws' e e' = (same e e', refl)

pub callers_in : Unique callers_in_kinds.ps callers_in_kinds.r callers_in_reads.Pre callers_in_reads.Post
callers_in κs a p z z' ws ws' e e' = (same e.0 e'.0, pair refl (pair refl (pair (same e.1 e'.1) refl)))
