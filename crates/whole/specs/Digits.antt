-- Digits read to a value, and VAL.
use Rattle.whole.specs.declared.errors.Error.{Error}
use Rattle.std.specs.Prelude.{Bool, cond, ◌&&◌, ◌||◌, List, [], ◌∷◌, ℕ, ◌+◌, ◌-◌, ◌*◌, leb, ltb, eqb, pos, neg_ℤ, length, drop, Err, None, Option, Result, Some}
use Prim.Native.Char.{code}
use Rattle.whole.specs.Bytes.{is, leading}
use Rattle.whole.specs.Whole.{fit}
use Rattle.whole.specs.declared.errors.Error.TheVariants.{IllegalFunctionCall}
use Rattle.whole.specs.declared.digits.Digits.{Digits}

-- ---- digits

unfoldable pub is_digit : ℕ → Bool
is_digit b = leb (code "0") b && leb b (code "9")

-- the digits that bytes begin with, up to the first that is none
abbrev pub leading_digits : List ℕ → List ℕ
leading_digits s = leading is_digit s

-- the value of digits that follow others of the value v
unfoldable pub value_from : ℕ → List ℕ → ℕ
value_from v [] = v
value_from v (d ∷ ds) = value_from (v * 10 + (d - code "0")) ds

-- the value of the digits that bytes begin with; 0 where there are none
abbrev pub leading_value : List ℕ → ℕ
leading_value s = value_from 0 (leading_digits s)

-- a value that 16 bits hold, or 'too large'
unfoldable pub capped : ℕ → Option ℕ
capped n = cond (leb n 65535) (Some n) None

-- how many digits bytes begin with, and what they are worth
unfoldable pub digits_of : List ℕ → Digits
digits_of s = record { count = length (leading_digits s); magnitude = capped (leading_value s) }

-- ---- VAL

-- how many blanks bytes begin with
abbrev pub blanks_of : List ℕ → ℕ
blanks_of s = length (leading (is " ") s)

-- at most one + or -, then digits until something else; none: 0
unfoldable pub signed_value : List ℕ → Result ℕ Error
signed_value [] = fit (pos 0)
signed_value (b ∷ s) =
    cond (is "-" b) (fit (neg_ℤ (pos (leading_value s))))
    (cond (is "+" b) (fit (pos (leading_value s))) (fit (pos (leading_value (b ∷ s)))))

-- leading blanks, then that
abbrev pub val_of : List ℕ → Result ℕ Error
val_of s = signed_value (drop (blanks_of s) s)

-- ---- a number read from an item of DATA

-- one sign, or none
unfoldable pub sign_length : List ℕ → ℕ
sign_length [] = 0
sign_length (b ∷ s) = cond (is "-" b || is "+" b) 1 0

-- digits only, and at least one
unfoldable pub digits_only : List ℕ → Bool
digits_only s = ltb 0 (length s) && eqb (length (leading_digits s)) (length s)

-- one optional sign and digits only, else error 5; out of range 6; no blanks are skipped
unfoldable pub number_item : List ℕ → Result ℕ Error
number_item s = cond (digits_only (drop (sign_length s) s)) (signed_value s) (Err IllegalFunctionCall)
