-- Worked examples, computed by the checker.
use Rattle.whole.specs.declared.errors.Error.{Error}
use Rattle.std.specs.Prelude.{◌≡◌, refl, List, [], ◌∷◌, map, ℕ, pos, neg_ℤ, Err, Ok, Result}
use Rattle.whole.specs.Bytes.{bytes, leading}
use Rattle.whole.specs.Whole.{num, word, fit, applied, negated, magnitude}
use Rattle.whole.specs.Texts.{places, trimmed, digit_byte, numeral, signed_numeral, printed_number, hexadecimal}
use Rattle.whole.specs.Digits.{is_digit, value_from, signed_value, val_of, sign_length, digits_only, number_item}
use Rattle.whole.specs.declared.errors.Error.TheVariants.{IllegalFunctionCall, Overflow, DivisionByZero}
use Rattle.whole.specs.declared.arithmetic.Operator.TheVariants.{Multiply, Divide, Modulo, Add, Less, And}

-- the word of -n
abbrev minus : ℕ → ℕ
minus n = word (neg_ℤ (pos n))

-- what is asked, and what is answered
pub record Example (A : Type 0) : Type 0 where
  pub asked : A
  pub answered : A

infix 3 ◌gives◌
abbrev ◌gives◌ : {A : Type 0} → A → A → Example A
a gives b = record { asked = a; answered = b }

-- ---- document 01's starred examples of arithmetic, and some beside them

pub arithmetic : List (Example (Result ℕ Error))
arithmetic =
    -- -7\2 is -3, -7 MOD 2 is -1, 7 MOD -2 is 1
    (applied Divide (minus 7) 2 gives Ok (minus 3))
    ∷ (applied Modulo (minus 7) 2 gives Ok (minus 1))
    ∷ (applied Modulo 7 (minus 2) gives Ok 1)
    -- 32767+1 is 6, &H8000\-1 is 6, &H8000 MOD -1 is 0
    ∷ (applied Add 32767 1 gives Err Overflow)
    ∷ (applied Divide 0x8000 (minus 1) gives Err Overflow)
    ∷ (applied Modulo 0x8000 (minus 1) gives Ok 0)
    -- -1 AND 8 is 8
    ∷ (applied And (minus 1) 8 gives Ok 8)
    ∷ (applied Divide 5 0 gives Err DivisionByZero)
    ∷ (applied Modulo 5 0 gives Err DivisionByZero)
    ∷ (applied Multiply (minus 256) 128 gives Ok 0x8000)
    ∷ (applied Less (minus 1) 0 gives Ok (minus 1))
    ∷ (negated 0x8000 gives Err Overflow)
    ∷ (magnitude 0x8000 gives Err Overflow)
    ∷ []

pub arithmetic_holds : map (λ (e : Example (Result ℕ Error)). e.asked) arithmetic ≡ map (λ (e : Example (Result ℕ Error)). e.answered) arithmetic
unfolding arithmetic num fit
arithmetic_holds = refl

-- ---- texts of numbers

pub texts : List (Example (List ℕ))
texts =
    (signed_numeral 0 gives bytes " 0")
    ∷ (signed_numeral (minus 32768) gives bytes "-32768")
    ∷ (printed_number 120 gives bytes " 120 ")
    ∷ (hexadecimal 0 gives bytes "0")
    ∷ (hexadecimal (minus 1) gives bytes "FFFF")
    ∷ (hexadecimal 0x1A0 gives bytes "1A0")
    ∷ []

pub texts_hold : map (λ (e : Example (List ℕ)). e.asked) texts ≡ map (λ (e : Example (List ℕ)). e.answered) texts
unfolding texts num signed_numeral numeral trimmed places digit_byte bytes
texts_hold = refl

-- ---- VAL

pub values : List (Example (Result ℕ Error))
values =
    (val_of (bytes "") gives Ok 0)
    ∷ (val_of (bytes "  -12X3") gives Ok (minus 12))
    ∷ (val_of (bytes "+7") gives Ok 7)
    ∷ (val_of (bytes "--7") gives Ok 0)
    ∷ (val_of (bytes "-32768") gives Ok 0x8000)
    ∷ (val_of (bytes "32768") gives Err Overflow)
    ∷ (val_of (bytes "99999999999999999999") gives Err Overflow)
    ∷ []

pub values_hold : map (λ (e : Example (Result ℕ Error)). e.asked) values ≡ map (λ (e : Example (Result ℕ Error)). e.answered) values
unfolding values fit bytes leading signed_value is_digit value_from
values_hold = refl

-- ---- numbers read from items of DATA

pub items : List (Example (Result ℕ Error))
items =
    (number_item (bytes "0099") gives Ok 99)
    ∷ (number_item (bytes "+5") gives Ok 5)
    ∷ (number_item (bytes "-0") gives Ok 0)
    ∷ (number_item (bytes "-32768") gives Ok 0x8000)
    -- out of range
    ∷ (number_item (bytes "32768") gives Err Overflow)
    ∷ (number_item (bytes "-32769") gives Err Overflow)
    ∷ (number_item (bytes "99999999999999999999") gives Err Overflow)
    -- the empty item, a lone sign, two signs
    ∷ (number_item (bytes "") gives Err IllegalFunctionCall)
    ∷ (number_item (bytes "+") gives Err IllegalFunctionCall)
    ∷ (number_item (bytes "-") gives Err IllegalFunctionCall)
    ∷ (number_item (bytes "+-1") gives Err IllegalFunctionCall)
    -- blanks are no digits, and a byte that is none tells before the range does
    ∷ (number_item (bytes " 1") gives Err IllegalFunctionCall)
    ∷ (number_item (bytes "1 ") gives Err IllegalFunctionCall)
    ∷ (number_item (bytes "1 2") gives Err IllegalFunctionCall)
    ∷ (number_item (bytes "&H1F") gives Err IllegalFunctionCall)
    ∷ (number_item (bytes "99999X") gives Err IllegalFunctionCall)
    ∷ []

pub items_hold : map (λ (e : Example (Result ℕ Error)). e.asked) items ≡ map (λ (e : Example (Result ℕ Error)). e.answered) items
unfolding items fit bytes leading signed_value is_digit value_from sign_length digits_only number_item
items_hold = refl
