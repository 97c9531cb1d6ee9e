-- The classes of bytes, and the signs.
use Rattle.words.specs.declared.symbols.Token.{Token}
use Rattle.std.specs.Prelude.{Bool, cond, ◌&&◌, ◌||◌, List, [], ◌∷◌, ℕ, ◌+◌, ◌-◌, leb, None, Option, Some}
use Prim.Native.Char.{code}
use Rattle.whole.specs.Bytes.{is}
use Rattle.whole.specs.Digits.{is_digit}
use Rattle.words.specs.Spellings.{Spelt, ◌means◌, meaning}
use Rattle.words.specs.declared.classes.ByteClass.{ByteClass}
use Rattle.words.specs.declared.classes.ByteClass.TheVariants as class
use Rattle.whole.specs.declared.arithmetic.Operator.TheVariants.{
  Multiply,
  Divide,
  Add,
  Unequal,
  Less,
  Greater,
  AtMost,
  AtLeast,
}
use Rattle.words.specs.declared.symbols.Token.TheVariants.{Infix, Symbol}
use Rattle.words.specs.declared.symbols.Sign.TheVariants.{
  Open,
  Close,
  Comma,
  Semicolon,
  Colon,
  Question,
  Equal,
  Minus,
}

-- ---- letters and digits

-- letters outside quotes are folded to capitals
unfoldable pub capital_of : ℕ → ℕ
capital_of b = cond (leb (code "a") b && leb b (code "z")) (b - (code "a" - code "A")) b

unfoldable pub is_letter : ℕ → Bool
is_letter b = leb (code "A") (capital_of b) && leb (capital_of b) (code "Z")

-- the digits of a hexadecimal number: 0 to 9, A to F
unfoldable pub is_hex : ℕ → Bool
is_hex b = is_digit b || (leb (code "A") (capital_of b) && leb (capital_of b) (code "F"))

unfoldable pub hex_digit : ℕ → ℕ
hex_digit b = cond (is_digit b) (b - code "0") (capital_of b - code "A" + 10)

-- ---- signs

-- the signs of one byte
unfoldable pub signs : List (Spelt (Option Token))
signs =
    ("(" means Some (Symbol Open))
    ∷ (")" means Some (Symbol Close))
    ∷ ("," means Some (Symbol Comma))
    ∷ (";" means Some (Symbol Semicolon))
    ∷ (":" means Some (Symbol Colon))
    ∷ ("?" means Some (Symbol Question))
    ∷ ("=" means Some (Symbol Equal))
    ∷ ("<" means Some (Infix Less))
    ∷ (">" means Some (Infix Greater))
    ∷ ("+" means Some (Infix Add))
    ∷ ("-" means Some (Symbol Minus))
    ∷ ("*" means Some (Infix Multiply))
    ∷ ("\\" means Some (Infix Divide))
    ∷ []

-- two-sign comparisons
unfoldable pub pairs : List (Spelt (Option Token))
pairs =
    ("<>" means Some (Infix Unequal))
    ∷ ("<=" means Some (Infix AtMost))
    ∷ (">=" means Some (Infix AtLeast))
    ∷ []

abbrev pub sign_of : ℕ → Option Token
sign_of b = meaning signs None (b ∷ [])

abbrev pub pair_of : ℕ → ℕ → Option Token
pair_of a b = meaning pairs None (a ∷ b ∷ [])

-- ---- the class of a byte: letter, digit, blank, sign, quote or other

abbrev pub of_sign : Option Token → ByteClass
of_sign (Some s) = class.Sign
of_sign None = class.Other

unfoldable pub class_of : ℕ → ByteClass
class_of b =
    cond (is_letter b) class.Letter
    (cond (is_digit b) class.Digit
    (cond (is " " b) class.Blank
    (cond (is "\"" b) class.Quote (of_sign (sign_of b)))))
