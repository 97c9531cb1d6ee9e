-- What the program writes: `present`, the line and the place of its first byte, or `missing` and the line; then `caller` and its number for
-- each line that names it; or `refused`, the number and the place. All is parted by tabs, and each line ended by byte 10.
use Rattle.loader.specs.declared.refusals.RefusedAt.{RefusedAt}
use Rattle.words.specs.declared.places.Place.{Place}
use Rattle.loader.specs.Refusals.{refused_at}
use Rattle.std.specs.Prelude.{List, [], ◌∷◌, ◌++◌, ℕ, Err, None, Ok, Option, Result, Some}
use Rattle.whole.specs.Bytes.{bytes}
use Rattle.words.specs.declared.places.LineNumber.{LineNumber}
use Rattle.loader.specs.Lines.{find_line}
use Rattle.console.specs.Lines.{line, refused_line}
use Rattle.index.specs.Callers.{callers_of}
use Rattle.index.specs.Index.{indexed_of, indexed_number, indexed_place}
use Rattle.index.specs.Law.{start_of}

abbrev pub start_line : LineNumber → Option Place → List ℕ
start_line n (Some p) = line (bytes "present") (n.0 ∷ p.0 ∷ [])
start_line n None = line (bytes "missing") (n.0 ∷ [])

abbrev pub caller_line : ℕ → List ℕ
caller_line n = line (bytes "caller") (n ∷ [])

unfoldable pub caller_lines : List ℕ → List ℕ
caller_lines [] = []
caller_lines (n ∷ ns) = caller_line n ++ caller_lines ns

abbrev pub told : List ℕ → LineNumber → Result (Unit {0}) RefusedAt → List ℕ
told text n (Ok _) = start_line n (start_of (find_line text n)) ++ caller_lines (callers_of text n)
told text n (Err e) = refused_line (indexed_number (refused_at e.refusal e.place)) (indexed_place (refused_at e.refusal e.place))

-- what is written of a text and a line
abbrev pub answer_to : List ℕ → LineNumber → List ℕ
answer_to text n = told text n (indexed_of text)
