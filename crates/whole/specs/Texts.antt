-- How a whole number is written, and how a string is held.
use Rattle.std.specs.Prelude.{cond, List, [], ◌∷◌, ◌++◌, map, ℕ, zero, suc, ◌+◌, ◌-◌, ◌/◌, ◌%◌, ltb, ℤ, pos, negsuc, nat_abs, length, replicate, set}
use Prim.Native.Char.{code}
use Rattle.whole.specs.Bytes.{blank}
use Rattle.whole.specs.Whole.{num}
use Rattle.whole.specs.declared.texts.Text.{Text}

-- a string holds 0 to 255 bytes
abbrev pub longest_string : ℕ
longest_string = 255

-- a string in its buffer: its bytes, zeros after them, and how many they are
unfoldable pub held : List ℕ → Text
held l = record { bytes = l ++ replicate (longest_string - length l) 0; len = length l }

-- a string with one byte more; the longest has no room and stays as it is
unfoldable pub with_byte : Text → ℕ → Text
with_byte t b = cond (ltb t.len longest_string) (record { bytes = set t.bytes t.len b; len = t.len + 1 }) t

-- a string with bytes after it, one by one
unfoldable pub with_bytes : Text → List ℕ → Text
with_bytes t [] = t
with_bytes t (b ∷ s) = with_bytes (with_byte t b) s

-- ---- numerals

-- the digits of n in a base, in so many places, the first place counting most
unfoldable pub places : ℕ → ℕ → ℕ → List ℕ
places base zero n = []
places base (suc k) n = places base k (n / base) ++ (n % base ∷ [])

-- no leading zeros, 0 for 0
unfoldable pub trimmed : List ℕ → List ℕ
trimmed [] = []
trimmed (d ∷ []) = d ∷ []
trimmed (zero ∷ d ∷ ds) = trimmed (d ∷ ds)
trimmed (suc n ∷ d ∷ ds) = suc n ∷ d ∷ ds

-- the byte of a digit: 0 to 9, then capitals from A
unfoldable pub digit_byte : ℕ → ℕ
digit_byte d = cond (ltb d 10) (code "0" + d) (code "A" + (d - 10))

-- n, which has at most so many places, in digits
unfoldable pub numeral : ℕ → ℕ → ℕ → List ℕ
numeral base count n = map digit_byte (trimmed (places base count n))

-- ---- the texts of a whole number

-- a blank, or a minus below zero
abbrev pub sign_byte : ℤ → ℕ
sign_byte (pos n) = blank
sign_byte (negsuc n) = code "-"

-- STR$: a blank or minus, then digits, of which a whole number has at most five
unfoldable pub signed_numeral : ℕ → List ℕ
signed_numeral w = sign_byte (num w) ∷ numeral 10 5 (nat_abs (num w))

-- PRINT: a blank or minus, its digits, a blank
abbrev pub printed_number : ℕ → List ℕ
printed_number w = signed_numeral w ++ (blank ∷ [])

-- HEX$: of the 16 bits; capitals, no leading zeros, 0 for 0
abbrev pub hexadecimal : ℕ → List ℕ
hexadecimal w = numeral 16 4 w
