-- What bits denote by IEEE 754, over exact numbers alone: nothing is rounded here. Two statements in these terms, proved in proofs/Rules.antt: no reading is
-- off by a bit, which the contract of `reading_of` says too; and when a single holds a value.
use Rattle.std.specs.Prelude.{◌≡◌, Bool, true, ◌↔◌, ℕ, zero, suc, ◌+◌, ◌*◌, ◌/◌, ◌%◌, ◌^◌, ◌<◌, leb, eqb}
use Rattle.std.specs.Float.{Format, binary32}
use Rattle.std.specs.Float.Ieee.{low, hid, ones, top}
use Rattle.readings.specs.Values.{bits_below, Exact, exact_of, reading_of, format_of, is_single, bits_of}

-- ---- what bits denote

-- From the highest bit down: the sign, the exponent's field, and the digits behind the leading one. In a single the sign weighs 2 to the power 31
-- (`top`), the field is counted from 2 to the power 23 on (`hid`), and 255 in it (`ones`) is no number; in a double it is 63, 52 and 2047.
abbrev pub sign_in : Format → ℕ → Bool
sign_in f bits = leb (top f) bits

abbrev pub field_in : Format → ℕ → ℕ
field_in f bits = bits % top f / hid f

abbrev pub digits_in : Format → ℕ → ℕ
digits_in f bits = bits % hid f

-- the size, counted in the smallest value there is: a field of 0 counts as one of 1, but has no leading digit
abbrev pub size_by : ℕ → ℕ → ℕ → ℕ
size_by leading zero digits = digits
size_by leading (suc field) digits = (leading + digits) * 2 ^ field

abbrev pub size_in : Format → ℕ → ℕ
size_in f bits = size_by (hid f) (field_in f bits) (digits_in f bits)

-- the bits are those of this number and no other: the smallest single is 2 to the power -149, the smallest double 2 to the power -1074 (`low`)
pub record Denotes (f : Format) (bits : ℕ) (x : Exact) : Type 0 where
  pub within : bits < 2 * top f
  pub finite : field_in f bits < ones f
  pub sign : sign_in f bits ≡ x.minus
  pub size : size_in f bits * 2 ^ 152 ≡ x.size * 2 ^ low f

-- ---- no reading is off by a bit

-- The bits of every reading, so also those in the lines of a file, denote exactly the value that the paper gives its four bytes. Ruled out: a last
-- digit that was rounded; minus zero for an e of 0.
abbrev pub ReadingsAreExact : Type 0
ReadingsAreExact =
    (low middle high e : ℕ) → low < 256 → middle < 256 → high < 256 → e < 256
    → Denotes (format_of (reading_of low middle high e)) (bits_of (reading_of low middle high e)) (exact_of low middle high e)

-- ---- when a single holds a value

-- there are bits of a single that denote it
abbrev pub ASingleHolds : Exact → Type 0
ASingleHolds x = (bits : ℕ) × Denotes binary32 bits x

-- the paper's conditions, by m and e: with e of 3 or more always; with e of 2 when m is even; with e of 1 when m is a multiple of 4. And plus zero
abbrev pub holds_at : ℕ → ℕ → Bool
holds_at m zero = true
holds_at m (suc zero) = eqb (m % 4) 0
holds_at m (suc (suc zero)) = eqb (m % 2) 0
holds_at m (suc (suc (suc e))) = true

pub record JustWhen (low middle high e : ℕ) : Type 0 where
  pub held : ASingleHolds (exact_of low middle high e) ↔ (holds_at (bits_below low middle high) e ≡ true)
  pub given : (is_single (reading_of low middle high e) ≡ true) ↔ ASingleHolds (exact_of low middle high e)

-- Of all four bytes: a single holds the value if and only if the paper's conditions are met, and the reading is a single if and only if one holds it.
-- Ruled out: a double where a single would do; a single that is only near.
abbrev pub SinglesJustWhen : Type 0
SinglesJustWhen = (low middle high e : ℕ) → low < 256 → middle < 256 → high < 256 → e < 256 → JustWhen low middle high e
