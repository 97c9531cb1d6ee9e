-- The public functions of this crate: two answers that a contract allows are equal, and so is what the room holds after them.
use mathlib.Core.Path.{refl}
use Rattle.calls.specs.Calls.{Unique}
use Rattle.calls.proofs.Same.{same, pair}
use Rattle.readings.proofs.values.reading_of.Kinds as reading_of_kinds
use Rattle.readings.proofs.values.reading_of.Reads as reading_of_reads
use Rattle.readings.proofs.importing.import_readings.Kinds as import_readings_kinds
use Rattle.readings.proofs.importing.import_readings.Reads as import_readings_reads

pub reading_of : Unique reading_of_kinds.ps reading_of_kinds.r reading_of_reads.Pre reading_of_reads.Post
reading_of κs a p z z' ws ws' e e' = (same e.0 e'.0, refl)

pub import_readings : Unique import_readings_kinds.ps import_readings_kinds.r import_readings_reads.Pre import_readings_reads.Post
import_readings κs a p z z' ws ws' e e' = (same e.0 e'.0, pair refl (pair (same e.1 e'.1) refl))
