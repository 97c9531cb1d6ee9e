-- Worked examples, computed by the checker: what stands at the front of a line.
use Rattle.std.specs.Prelude.{◌≡◌, refl, List, [], ◌∷◌, map}
use Prim.Native.String.{String}
use Rattle.whole.specs.Bytes.{bytes, leading}
use Rattle.whole.specs.Digits.{is_digit, value_from}
use Rattle.words.specs.Spellings.{same_bytes, meaning}
use Rattle.words.specs.Classes.{capital_of, is_letter, is_hex, hex_digit, signs, pairs, class_of}
use Rattle.words.specs.Vocabulary.{reserved}
use Rattle.words.specs.Places.{place, line_number}
use Rattle.words.specs.declared.symbols.Sign.TheVariants.{Equal, Minus}
use Rattle.whole.specs.declared.arithmetic.Operator.TheVariants.{AtMost, Less}
use Rattle.words.specs.declared.names.Kind.TheVariants.{Whole, Text}
use Rattle.words.specs.declared.symbols.Word.TheVariants.{Print, Rem}
use Rattle.words.specs.declared.symbols.Function.TheVariants.{Chr}
use Rattle.words.specs.declared.symbols.Scanned.{Scanned}
use Rattle.words.specs.declared.symbols.Token.TheVariants.{
  EndOfLine,
  Keyword,
  Infix,
  Call,
  Number,
  Hexadecimal,
  LineOnly,
  Quoted,
  Symbol,
}
use Rattle.scanner.specs.Tokens.{
  ◌upto◌,
  unreadable,
  name_token,
  mark_of,
  word_token,
  number_token,
  hex_from,
  hex_token,
  text_token,
  sign_token,
  token_at,
}

-- a line, and what stands at its front
pub record Example : Type 0 where
  pub line : String
  pub token : Scanned

infix 3 ◌begins◌
abbrev ◌begins◌ : String → Scanned → Example
s begins t = record { line = s; token = t }

pub tokens : List Example
tokens =
    ("" begins (EndOfLine upto 0))
    ∷ ("   " begins (EndOfLine upto 3))
    ∷ (" 'soak" begins (EndOfLine upto 6))
    -- letters are folded; a word is the whole run of letters and digits
    ∷ ("  Print A" begins (Keyword Print upto 7))
    ∷ ("PRINT1" begins (name_token 0 6 Whole upto 6))
    -- TOP is a name
    ∷ ("TOP$" begins (name_token 0 3 Text upto 4))
    ∷ ("A% " begins (name_token 0 1 Whole upto 2))
    -- a reserved word has no mark but its own `$`
    ∷ ("CHR$(7)" begins (Call Chr upto 4))
    ∷ ("CHR (7)" begins unreadable 0)
    ∷ ("CHR $(7)" begins unreadable 0)
    ∷ ("PRINT$" begins unreadable 0)
    ∷ ("PRINT%" begins unreadable 0)
    -- REM takes the rest of the line
    ∷ ("REM$x \"" begins (Keyword Rem upto 7))
    -- numbers
    ∷ ("00032767" begins (Number 32767 upto 8))
    ∷ ("1THEN" begins (Number 1 upto 1))
    ∷ ("32768" begins (LineOnly (line_number 32768) upto 5))
    ∷ ("65529" begins (LineOnly (line_number 65529) upto 5))
    ∷ ("65530" begins unreadable 0)
    ∷ ("&h1f" begins (Hexadecimal 31 upto 4))
    ∷ ("&HFOR 1" begins (Hexadecimal 15 upto 3))
    ∷ ("&H" begins unreadable 0)
    ∷ ("&H00000" begins unreadable 0)
    ∷ ("&HFFFF" begins (Hexadecimal 65535 upto 6))
    -- texts
    ∷ ("\"LOT \"+A$" begins (Quoted (record { at = 1; len = 4 }) upto 6))
    ∷ ("\"\"" begins (Quoted (record { at = 1; len = 0 }) upto 2))
    ∷ ("\"LOT" begins unreadable 0)
    -- signs
    ∷ ("<=1" begins (Infix AtMost upto 2))
    ∷ ("< =1" begins (Infix Less upto 1))
    ∷ ("=<1" begins (Symbol Equal upto 1))
    ∷ ("--1" begins (Symbol Minus upto 1))
    ∷ ("#1" begins unreadable 0)
    ∷ []

pub tokens_hold : map (λ (e : Example). token_at (bytes e.line) (place 0)) tokens ≡ map (λ (e : Example). e.token) tokens
unfolding tokens bytes leading is_digit value_from same_bytes meaning capital_of is_letter is_hex hex_digit signs pairs class_of reserved mark_of word_token number_token hex_from hex_token text_token sign_token token_at
tokens_hold = refl
