-- What loading a text answers: the paper's tests in the paper's order, the last five line by line.
use Rattle.words.specs.declared.places.LineNumber.{LineNumber}
use Rattle.loader.specs.declared.refusals.RefusedAt.{RefusedAt}
use Rattle.loader.specs.Refusals.{refused_at}
use Rattle.std.specs.Prelude.{Bool, cond, ◌&&◌, List, [], ◌∷◌, ℕ, ◌+◌, leb, ltb, length, Err, None, Ok, Option, Result, Some}
use Prim.Native.Char.{code}
use Rattle.whole.specs.Bytes.{leading}
use Rattle.words.specs.Places.{place, line_number, longest_line}
use Rattle.loader.specs.Lines.{Line, lines_of, number_of}
use Rattle.loader.specs.declared.refusals.Refusal.TheVariants.{
  TextTooLong,
  LineTooLong,
  ForeignByte,
  BadNumber,
  NotRising,
  TooManyLines,
}

-- bytes 32 to 126, blank to tilde
unfoldable pub is_plain : ℕ → Bool
is_plain b = leb (code " ") b && leb b (code "~")

-- a text has at most 512 lines
abbrev pub most_lines : ℕ
most_lines = 512

-- a line with a number: the number must be above the one before, that is, not below `floor`; a 513th line is one too many
unfoldable pub numbered : ℕ → ℕ → ℕ → Result LineNumber RefusedAt
numbered n before floor =
    cond (ltb n floor) (refused_at NotRising (place 0)) (cond (leb most_lines before) (refused_at TooManyLines (place 0)) (Ok (line_number n)))

abbrev pub with_number : Option (LineNumber × ℕ) → ℕ → ℕ → Result LineNumber RefusedAt
with_number (Some (n, count)) before floor = numbered n.0 before floor
with_number None before floor = refused_at BadNumber (place 0)

-- the tests of a line, each with its place in the line
unfoldable pub judged : List ℕ → ℕ → ℕ → Result LineNumber RefusedAt
judged bytes before floor =
    cond (ltb longest_line (length bytes)) (refused_at LineTooLong (place 0))
    (cond (ltb (length (leading is_plain bytes)) (length bytes)) (refused_at ForeignByte (place (length (leading is_plain bytes))))
    (with_number (number_of bytes) before floor))

-- the first line that is bad decides; the next line's number must be above this one's
abbrev pub by_judged : Result LineNumber RefusedAt → ℕ → (ℕ → Result (Unit {0}) RefusedAt) → Result (Unit {0}) RefusedAt
by_judged (Ok n) start next = next (n.0 + 1)
by_judged (Err e) start next = refused_at e.refusal (place (start + e.place.0))

unfoldable pub load_lines : ℕ → ℕ → List Line → Result (Unit {0}) RefusedAt
load_lines before floor [] = Ok tt
load_lines before floor (l ∷ ls) = by_judged (judged l.bytes before floor) l.start (λ above. load_lines (before + 1) above ls)

abbrev pub longest_text : ℕ
longest_text = 16384

-- a text over 16,384 bytes is refused first
unfoldable pub load_of : List ℕ → Result (Unit {0}) RefusedAt
load_of text = cond (ltb longest_text (length text)) (refused_at TextTooLong (place 0)) (load_lines 0 0 (lines_of text))
