-- The public functions of `tallies`.
use mathlib.Core.Path.{refl}
use Rattle.tallies.proofs as tallies
use Rattle.sheet_promises.specs.Calls.{Unique}
use Rattle.sheet_promises.proofs.Unique.{same}

pub tally_empty : Unique tallies.counting.Tally.empty.Kinds.ps tallies.counting.Tally.empty.Kinds.r tallies.counting.Tally.empty.Reads.Pre tallies.counting.Tally.empty.Reads.Post
tally_empty κs a p z z' ws ws' e e' = (same e e', refl)

pub with_record : Unique tallies.with_record.Kinds.ps tallies.with_record.Kinds.r tallies.with_record.Reads.Pre tallies.with_record.Reads.Post
with_record κs a p z z' ws ws' e e' = (same e e', refl)
