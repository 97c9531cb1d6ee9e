-- Worked examples, computed by the checker: the paper's three, one of each kind of exponent, lines, and what is refused.
use Rattle.loader.specs.Refusals.{refused_at}
use Rattle.std.specs.Prelude.{◌≡◌, refl, Bool, true, false, List, [], ◌∷◌, ◌++◌, map, ℕ, ◌*◌, ◌^◌, pos, negsuc, Ok}
use Rattle.std.specs.Int.Count.{count_trailing_zeros}
use Rattle.std.specs.Float.{fin}
use Rattle.std.specs.Float.Ieee.{odd, fits, to_bits, size, span, climb}
use Rattle.whole.specs.Bytes.{bytes}
use Rattle.whole.specs.Texts.{places, digit_byte}
use Rattle.words.specs.Places.{place}
use Rattle.loader.specs.declared.refusals.Refusal.TheVariants.{ShortGroup, NoRoom}
use Rattle.readings.specs.Values.{Exact, exact_of, value_of, reading_of}
use Rattle.readings.specs.Lines.{hex_digits, line_of, lines_of}
use Rattle.readings.specs.Importing.{imported_of}
use Rattle.readings.specs.declared.values.Reading.{Reading}
use Rattle.readings.specs.declared.values.Reading.TheVariants.{Single, Double}

-- ---- the paper's three, as exact numbers

abbrev number : Bool → ℕ → Exact
number minus n = record { minus = minus; size = n * 2 ^ 152 }

pub numbers_hold : exact_of 0x00 0x00 0x00 0x81 ∷ exact_of 0x00 0x00 0x80 0x81 ∷ exact_of 0x00 0x00 0x20 0x84 ∷ []
    ≡ number false 1 ∷ number true 1 ∷ number false 10 ∷ []
numbers_hold = refl

-- ---- four bytes, and what they are made into

pub record Example : Type 0 where
  pub low : ℕ
  pub middle : ℕ
  pub high : ℕ
  pub e : ℕ
  pub reading : Reading

abbrev four : ℕ → ℕ → ℕ → ℕ → Reading → Example
four low middle high e reading = record { low = low; middle = middle; high = high; e = e; reading = reading }

pub examples : List Example
examples =
    -- 1, -1 and ten
    four 0x00 0x00 0x00 0x81 (Single (fin false 1 (pos 0)))
    ∷ four 0x00 0x00 0x80 0x81 (Single (fin true 1 (pos 0)))
    ∷ four 0x00 0x00 0x20 0x84 (Single (fin false 5 (pos 1)))
    -- e of 0 is plus zero, whatever the rest
    ∷ four 0xFF 0xFF 0xFF 0x00 (Single (fin false 0 (pos 0)))
    -- e of 3 is always a single
    ∷ four 0x01 0x00 0x80 0x03 (Single (fin true 8388609 (negsuc 148)))
    -- e of 2 when m is even
    ∷ four 0x02 0x00 0x00 0x02 (Single (fin false 4194305 (negsuc 148)))
    ∷ four 0x01 0x00 0x00 0x02 (Double (fin false 8388609 (negsuc 149)))
    -- e of 1 when m is a multiple of 4
    ∷ four 0x04 0x00 0x00 0x01 (Single (fin false 2097153 (negsuc 148)))
    ∷ four 0x02 0x00 0x00 0x01 (Double (fin false 4194305 (negsuc 149)))
    -- the largest
    ∷ four 0xFF 0xFF 0x7F 0xFF (Single (fin false 16777215 (pos 103)))
    ∷ []

pub examples_hold : map (λ (x : Example). reading_of x.low x.middle x.high x.e) examples
    ≡ map (λ (x : Example). x.reading) examples
unfolding examples reading_of value_of fits odd count_trailing_zeros
examples_hold = refl

-- ---- files

-- the paper's three, and a double
pub file : List ℕ
file =
    0x00 ∷ 0x00 ∷ 0x00 ∷ 0x81 ∷ 0x00 ∷ 0x00 ∷ 0x80 ∷ 0x81 ∷ 0x00 ∷ 0x00 ∷ 0x20 ∷ 0x84 ∷ 0x01 ∷ 0x00 ∷ 0x00 ∷ 0x01 ∷ []

pub lines_hold : lines_of file ≡ bytes "single\t3F800000\nsingle\tBF800000\nsingle\t41200000\ndouble\t37F0000020000000\n"
unfolding file lines_of line_of reading_of value_of fits odd count_trailing_zeros to_bits size span climb hex_digits places digit_byte bytes
lines_hold = refl

-- room for all of it, and a byte less
pub answers_hold : map (imported_of file) (72 ∷ 71 ∷ []) ≡ Ok 72 ∷ refused_at NoRoom (place 0) ∷ []
unfolding imported_of file lines_of line_of reading_of value_of fits odd count_trailing_zeros to_bits size span climb hex_digits places digit_byte bytes
answers_hold = refl

-- a short group is refused first
pub short_hold : map (λ (more : List ℕ). imported_of (file ++ more) 0) ((0 ∷ []) ∷ (0 ∷ 0 ∷ []) ∷ (0 ∷ 0 ∷ 0 ∷ []) ∷ [])
    ≡ refused_at ShortGroup (place 16) ∷ refused_at ShortGroup (place 16) ∷ refused_at ShortGroup (place 16) ∷ []
unfolding imported_of file
short_hold = refl
