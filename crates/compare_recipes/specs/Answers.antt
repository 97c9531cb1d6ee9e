-- What the program writes: the records; or, where something is refused, one line: `refused`, the number, the place and, of an edition,
-- `old` or `new`, parted by tabs, ended by byte 10.
use Rattle.std.specs.Prelude.{List, [], ◌∷◌, ◌++◌, ℕ, Err, Ok, Result}
use Prim.Native.Char.{code}
use Rattle.whole.specs.Bytes.{bytes}
use Rattle.words.specs.declared.places.Place.{Place}
use Rattle.loader.specs.Refusals.{refusal_number}
use Rattle.loader.specs.declared.refusals.Refusal.{Refusal}
use Rattle.compare.specs.Records.{report_of}
use Rattle.compare.specs.declared.comparing.Rejected.{Rejected}
use Rattle.compare.specs.declared.comparing.Rejected.TheVariants.{Old, New, Room}
use Rattle.console.specs.Lines.{fields}

-- a line that says a refusal, and fields after it
abbrev pub refused_line : Refusal → Place → List ℕ → List ℕ
refused_line refusal at more = bytes "refused" ++ (fields (refusal_number refusal ∷ at.0 ∷ []) ++ (more ++ (code "\n" ∷ [])))

abbrev pub told_of : List ℕ → List ℕ → Result ℕ Rejected → List ℕ
told_of old new (Ok count) = report_of old new
told_of old new (Err (Old e)) = refused_line e.refusal e.place (bytes "\told")
told_of old new (Err (New e)) = refused_line e.refusal e.place (bytes "\tnew")
told_of old new (Err (Room e)) = refused_line e.refusal e.place []
