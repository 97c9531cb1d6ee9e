-- Asking an index, in the numbers that a host is answered with.
use Rattle.checker.specs.declared.checking.Fault.{Fault}
use Rattle.loader.specs.declared.refusals.RefusedAt.{RefusedAt}
use Rattle.words.specs.declared.places.Place.{Place}
use Rattle.std.specs.Prelude.{List, [], ◌∷◌, ℕ, None, Option, Result, Some}
use Rattle.host.specs.Receipts.{loaded_as}

-- indexing, as the check's verdict
abbrev pub indexed_as : Result (Unit {0}) RefusedAt → Result (Unit {0}) Fault
indexed_as answer = loaded_as answer

-- a line: 0 missing or 1, and its place
abbrev pub start_in : Option Place → List ℕ
start_in (Some p) = 1 ∷ p.0 ∷ []
start_in None = 0 ∷ 0 ∷ []
