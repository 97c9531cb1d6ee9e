-- Bridge: the line of input that the code takes from a place on.
-- The contracts of functions that crates use among themselves cite it; no demand and no promise of run, check_recipe or ask rests on it.
use Rattle.loader.specs.declared.lines.Extent.{Extent}
use Rattle.whole.specs.declared.errors.Error.{Error}
use Rattle.std.specs.Prelude.{cond, List, [], ◌∷◌, ℕ, ◌+◌, ltb, length, drop, Err, Ok, Result}
use Rattle.whole.specs.declared.errors.Error.TheVariants.{LineBufferOverflow, InputPastEnd}
use Rattle.words.specs.Places.{place}
use Rattle.loader.specs.Lines.{Line, lines_from}
use Rattle.machine.specs.Machine.{longest_input_line}

-- the first of the lines that are left: 62 if there is none, 23 if it has over 254 bytes
abbrev pub first_taken : List Line → Result Extent Error
first_taken [] = Err InputPastEnd
first_taken (l ∷ ls) =
    cond (ltb longest_input_line (length l.bytes)) (Err LineBufferOverflow) (Ok (record { end = place (l.start + length l.bytes); next = place l.next }))

abbrev pub taken_at : List ℕ → ℕ → Result Extent Error
taken_at input p = first_taken (lines_from p (drop p input))
