-- The line of a reading, and the lines of a file.
use Rattle.std.specs.Prelude.{List, [], ◌∷◌, ◌++◌, map, ℕ}
use Rattle.whole.specs.Bytes.{bytes}
use Rattle.whole.specs.Texts.{places, digit_byte}
use Rattle.readings.specs.Values.{reading_of, bits_of}
use Rattle.readings.specs.declared.values.Reading.{Reading}
use Rattle.readings.specs.declared.values.Reading.TheVariants.{Single, Double}

-- some bits in so many capital hex digits
unfoldable pub hex_digits : ℕ → ℕ → List ℕ
hex_digits count bits = map digit_byte (places 16 count bits)

-- `single` or `double`, tab, the result's bits as 8 or 16 capital hex digits, byte 10
unfoldable pub line_of : Reading → List ℕ
line_of (Single value) = bytes "single\t" ++ (hex_digits 8 (bits_of (Single value)) ++ (10 ∷ []))
line_of (Double value) = bytes "double\t" ++ (hex_digits 16 (bits_of (Double value)) ++ (10 ∷ []))

-- one line a reading, four bytes each
unfoldable pub lines_of : List ℕ → List ℕ
lines_of [] = []
lines_of (low ∷ []) = []
lines_of (low ∷ middle ∷ []) = []
lines_of (low ∷ middle ∷ high ∷ []) = []
lines_of (low ∷ middle ∷ high ∷ e ∷ rest) = line_of (reading_of low middle high e) ++ lines_of rest
