-- The public function of this crate.
use mathlib.Core.Path.{refl}
use Rattle.promises.specs.Calls.{Unique}
use Rattle.promises.proofs.Unique.{same, pair}
use Rattle.promises.proofs.guarding.run_checked.Kinds as run_checked_kinds
use Rattle.promises.proofs.guarding.run_checked.Reads as run_checked_reads

pub run_checked : Unique run_checked_kinds.ps run_checked_kinds.r run_checked_reads.Pre run_checked_reads.Post
run_checked κs a p z z' ws ws' e e' =
    (same e.0 e'.0, pair refl (pair refl (pair (same e.1.0 e'.1.0) (pair (same e.1.1.0 e'.1.1.0) refl))))
