-- What the program writes: `bounded` and the number; `not bounded`; or `refused`, the number and the place, parted by tabs; ended by byte 10.
use Rattle.std.specs.Prelude.{List, [], ◌∷◌, ℕ, Option, Some, None, Result, Ok, Err}
use Rattle.whole.specs.Bytes.{bytes}
use Rattle.loader.specs.declared.refusals.RefusedAt.{RefusedAt}
use Rattle.console.specs.Lines.{line, refused_line}
use Rattle.bounding.specs.Bounding.{bound_number, bound_place}

abbrev pub line_of : Result (Option ℕ) RefusedAt → List ℕ
line_of (Ok (Some n)) = line (bytes "bounded") (n ∷ [])
line_of (Ok None) = line (bytes "not bounded") []
line_of (Err e) = refused_line (bound_number (Err e)) (bound_place (Err e))
