-- The public function of this crate: two answers that its contract allows are equal, and so is what the room holds after them.
use mathlib.Core.Path.{refl}
use Rattle.calls.specs.Calls.{Unique}
use Rattle.calls.proofs.Same.{same, pair}
use Rattle.compare.proofs.comparing.compare.Kinds as compare_kinds
use Rattle.compare.proofs.comparing.compare.Reads as compare_reads

pub compare : Unique compare_kinds.ps compare_kinds.r compare_reads.Pre compare_reads.Post
compare κs a p z z' ws ws' e e' = (same e.0 e'.0, pair refl (pair refl (pair (same e.1 e'.1) refl)))
