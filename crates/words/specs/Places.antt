-- A place of a text or a line, and the number of a line, from a plain number; how large a line's number is at most, and how long a line.
use Rattle.std.specs.Prelude.{ℕ}
use Rattle.words.specs.declared.places.Place.{Place}
use Rattle.words.specs.declared.places.LineNumber.{LineNumber}

abbrev pub place : ℕ → Place
place n = record { 0 = n }

abbrev pub line_number : ℕ → LineNumber
line_number n = record { 0 = n }

-- line numbers run from 0 to 65529
abbrev pub largest_line_number : ℕ
largest_line_number = 65529

-- a line of a text has at most 255 bytes, its end not counted
abbrev pub longest_line : ℕ
longest_line = 255

-- the last place of a line where a name or a quoted text can be said to stand; no line of a text that loads is as long
abbrev pub furthest : ℕ
furthest = 65535
