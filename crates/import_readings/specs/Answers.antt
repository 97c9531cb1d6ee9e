-- What the program writes: the lines; or, where the file is refused, one line: `refused`, the number and the place, parted by tabs, ended by byte 10.
use Rattle.loader.specs.declared.refusals.RefusedAt.{RefusedAt}
use Rattle.std.specs.Prelude.{List, ℕ, Err, Ok, Result}
use Rattle.loader.specs.Refusals.{refusal_number}
use Rattle.readings.specs.Lines.{lines_of}
use Rattle.console.specs.Lines.{refused_line}

abbrev pub told_of : List ℕ → Result ℕ RefusedAt → List ℕ
told_of file (Ok count) = lines_of file
told_of file (Err e) = refused_line (refusal_number e.refusal) e.place.0
