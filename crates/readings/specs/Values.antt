-- What four bytes of an old machine stand for, and which of the two kinds of number holds it.
use Rattle.std.specs.Prelude.{Bool, true, false, cond, ℕ, zero, suc, ◌+◌, ◌*◌, ◌%◌, ◌^◌, pos, leb, Float}
use Rattle.std.specs.Float.{fin, Format, binary32, binary64}
use Rattle.std.specs.Float.Ieee.{odd, fits, to_bits}
use Rattle.readings.specs.declared.values.Reading.{Reading}
use Rattle.readings.specs.declared.values.Reading.TheVariants.{Single, Double}

-- ---- the paper's value, as an exact number

-- m: the 23 bits of the three bytes without the sign
abbrev pub bits_below : ℕ → ℕ → ℕ → ℕ
bits_below low middle high = low + 256 * middle + 65536 * (high % 128)

abbrev pub mantissa_of : ℕ → ℕ → ℕ → ℕ
mantissa_of low middle high = 8388608 + bits_below low middle high

-- bit 7 of the high byte
abbrev pub is_minus : ℕ → Bool
is_minus high = leb 128 high

-- a sign, and a size in steps of 2 to the power -152, of which every value of an old machine is a whole number
pub record Exact : Type 0 where
  pub minus : Bool
  pub size : ℕ

-- plus zero if e is 0, else (8388608 + m) times 2 to the power e minus 152, signed
abbrev pub exact_of : ℕ → ℕ → ℕ → ℕ → Exact
exact_of low middle high zero = record { minus = false; size = 0 }
exact_of low middle high (suc e) = record { minus = is_minus high; size = mantissa_of low middle high * 2 ^ suc e }

-- ---- the same as a number of the machine

-- n times 2 to the power e minus 152, with a sign, for an n below 2 to the power 24: exactly that number, `odd` rounds nothing
abbrev pub exactly : Bool → ℕ → ℕ → Float
exactly sign n e = odd 24 sign n e 152

unfoldable pub value_of : ℕ → ℕ → ℕ → ℕ → Float
value_of low middle high zero = fin false 0 (pos 0)
value_of low middle high (suc e) = exactly (is_minus high) (mantissa_of low middle high) (suc e)

-- a single where a single holds it exactly, otherwise a double
abbrev pub held_by : Float → Reading
held_by value = cond (fits binary32 value) (Single value) (Double value)

unfoldable pub reading_of : ℕ → ℕ → ℕ → ℕ → Reading
reading_of low middle high e = held_by (value_of low middle high e)

-- which of the two a reading is, and its bits
abbrev pub format_of : Reading → Format
format_of (Single value) = binary32
format_of (Double value) = binary64

abbrev pub is_single : Reading → Bool
is_single (Single value) = true
is_single (Double value) = false

abbrev pub bits_of : Reading → ℕ
bits_of (Single value) = to_bits binary32 value
bits_of (Double value) = to_bits binary64 value
