-- The lines of a text. A text has lines ended by byte 10; one byte 13 just before it is dropped. The last line may lack its
-- end, and a text that ends in byte 10 has no further line.
use Rattle.std.specs.Prelude.{Bool, false, cond, ◌&&◌, List, [], ◌∷◌, ℕ, zero, suc, ◌+◌, leb, eqb, length, drop, None, Option, Some}
use Rattle.whole.specs.Digits.{leading_digits, leading_value}
use Rattle.words.specs.Places.{place, line_number, largest_line_number}
use Rattle.words.specs.declared.places.Place.{Place}
use Rattle.words.specs.declared.places.LineNumber.{LineNumber}
use Rattle.loader.specs.declared.lines.Extent.{Extent}
use Rattle.loader.specs.declared.lines.LineSpan.{LineSpan}

-- a line: the place of its first byte, its bytes without its end, and the place where the next line begins
pub record Line : Type 0 where
  pub start : ℕ
  pub bytes : List ℕ
  pub next : ℕ

abbrev pub ends_line : ℕ → Bool
ends_line b = eqb b 10

-- a byte 13 that is just before a byte 10
abbrev pub dropped : ℕ → List ℕ → Bool
dropped b [] = false
dropped b (c ∷ t) = eqb b 13 && ends_line c

-- the byte b at the place p in front of the lines that follow: it begins the first of them, or is a line by itself
abbrev pub in_front : ℕ → ℕ → List Line → List Line
in_front p b [] = record { start = p; bytes = b ∷ []; next = p + 1 } ∷ []
in_front p b (l ∷ ls) = record { start = p; bytes = b ∷ l.bytes; next = l.next } ∷ ls

-- a dropped byte at the place p: the first of the lines that follow begins there
abbrev pub started_at : ℕ → List Line → List Line
started_at p [] = []
started_at p (l ∷ ls) = record { start = p; bytes = l.bytes; next = l.next } ∷ ls

-- the byte b at the place p, whether it is a byte 13 to drop, and the lines that follow
abbrev pub with_byte : ℕ → ℕ → Bool → List Line → List Line
with_byte p b drops ls =
    cond (ends_line b) (record { start = p; bytes = []; next = p + 1 } ∷ ls) (cond drops (started_at p ls) (in_front p b ls))

-- the lines of what a text holds from the place p on
unfoldable pub lines_from : ℕ → List ℕ → List Line
lines_from p [] = []
lines_from p (b ∷ t) = with_byte p b (dropped b t) (lines_from (p + 1) t)

abbrev pub lines_of : List ℕ → List Line
lines_of text = lines_from 0 text

-- those after the first
abbrev pub next_line : List Line → List Line
next_line [] = []
next_line (l ∷ ls) = ls

-- ---- the number of a line, and what stands after it

abbrev pub after_number : Line → List ℕ
after_number l = drop (length (leading_digits l.bytes)) l.bytes

-- a line begins with its number's first digit, all its digits belong to it, and it is at most 65529
unfoldable pub number_of : List ℕ → Option (LineNumber × ℕ)
number_of bytes =
    cond (leb 1 (length (leading_digits bytes)) && leb (leading_value bytes) largest_line_number)
    (Some (line_number (leading_value bytes), length (leading_digits bytes)))
    None

-- a line with its number, where the bytes after the number begin and end, and where the next begins
abbrev pub located : Line → Option (LineNumber × ℕ) → Option LineSpan
located l (Some (n, count)) =
    Some
    (record {
      number = n;
      place = place l.start;
      body = place (l.start + count);
      end = place (l.start + length l.bytes);
      next = place l.next;
    })
located l None = None

-- the first of some lines, where it has a number
abbrev pub first_of : List Line → Option LineSpan
first_of [] = None
first_of (l ∷ ls) = located l (number_of l.bytes)

-- the line that begins at a place
abbrev pub line_at : List ℕ → Place → Option LineSpan
line_at text at = first_of (lines_from at.0 (drop at.0 text))

-- whether a line has the number n
abbrev pub has : ℕ → Option (LineNumber × ℕ) → Bool
has n (Some (m, count)) = eqb m.0 n
has n None = false

-- the lines from the first with the number n on
unfoldable pub from_number : ℕ → List Line → List Line
from_number n [] = []
from_number n (l ∷ ls) = cond (has n (number_of l.bytes)) (l ∷ ls) (from_number n ls)

-- the line with a number
abbrev pub find_line : List ℕ → LineNumber → Option LineSpan
find_line text n = first_of (from_number n.0 (lines_of text))

-- ---- how the code finds a line's end, which `lines_from` says in other words (the proofs join the two)

-- how many bytes of a line's end stand at the front
unfoldable pub ending_of : List ℕ → ℕ
ending_of [] = 0
ending_of (b ∷ t) = cond (ends_line b) 1 (cond (dropped b t) 2 0)

abbrev pub extent_or : ℕ → ℕ → Extent → Extent
extent_or zero p further = further
extent_or (suc n) p further = record { end = place p; next = place (p + suc n) }

unfoldable pub extent_at : ℕ → List ℕ → Extent
extent_at p [] = record { end = place p; next = place p }
extent_at p (b ∷ t) = extent_or (ending_of (b ∷ t)) p (extent_at (p + 1) t)

-- where a line of an extent lies, and the bytes after the digits of its number
abbrev pub spanned : ℕ → Extent → LineNumber → ℕ → LineSpan
spanned start extent n count =
    record {
      number = n;
      place = place start;
      body = place (start + count);
      end = extent.end;
      next = extent.next;
    }
