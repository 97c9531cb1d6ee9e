-- Bridge: worked examples, computed by the checker: formulas that the flat reader reads to their end, and some that it does not.
-- No demand and no promise of run, check_recipe or ask rests on it.
use Rattle.words.specs.declared.symbols.Scanned.{Scanned}
use Rattle.std.specs.Prelude.{◌≡◌, refl, Bool, true, false, List, [], ◌∷◌, map, ℕ, None, Option, Some}
use Prim.Native.String.{String}
use Rattle.whole.specs.Bytes.{bytes, leading}
use Rattle.whole.specs.Digits.{is_digit, value_from}
use Rattle.words.specs.Places.{place}
use Rattle.words.specs.Spellings.{same_bytes, meaning}
use Rattle.words.specs.Classes.{capital_of, is_letter, is_hex, hex_digit, signs, pairs, class_of}
use Rattle.words.specs.Vocabulary.{reserved}
use Rattle.scanner.specs.Tokens.{mark_of, word_token, number_token, hex_from, hex_token, text_token, sign_token, token_at}
use Rattle.grammar.specs.Tests.{ends_line}
use Rattle.grammar.specs.Functions.{any_for}
use Rattle.skimming.specs.bridge.Flat.{want_at, have_at, end_at, skim_of}

pub record Example : Type 0 where
  pub line : String
  pub whole : Bool

infix 3 ◌is◌
abbrev ◌is◌ : String → Bool → Example
l is b = record { line = l; whole = b }

abbrev ended : Option Scanned → Bool
ended None = false
ended (Some t) = ends_line t.token

-- whether a line is one formula
abbrev pub is_whole : List ℕ → Bool
is_whole s = ended (skim_of s (token_at s (place 0)))

pub lines : List Example
lines =
    ("1" is true)
    ∷ ("" is false)
    ∷ ("A+B*-C" is true)
    ∷ ("A B" is false)
    -- one minus sign; NOT where an operand of AND or a looser operator may stand
    ∷ ("7 MOD -2" is true)
    ∷ ("--1" is false)
    ∷ ("-(-1)" is true)
    ∷ ("NOT NOT -A AND NOT B" is true)
    ∷ ("A=NOT B" is false)
    ∷ ("-NOT A" is false)
    -- parentheses take no comma, functions as many arguments as their lists say
    ∷ ("(((((((((((1)+2)+3)))))))))" is true)
    ∷ ("((1)" is false)
    ∷ ("(1))" is false)
    ∷ ("(1,2)" is false)
    ∷ ("()" is false)
    ∷ ("LEN(A$)+LEFT$(A$,(1))" is true)
    ∷ ("LEN(A$,1)" is false)
    ∷ ("LEFT$(A$)" is false)
    ∷ ("MID$(A$,1)" is true)
    ∷ ("MID$(A$,1,LEN(B$))" is true)
    ∷ ("MID$(A$,1,2,3)" is false)
    ∷ ("LEN A$" is false)
    ∷ []

pub lines_hold : map (λ (e : Example). is_whole (bytes e.line)) lines ≡ map (λ (e : Example). e.whole) lines
unfolding lines bytes leading is_digit value_from same_bytes meaning capital_of is_letter is_hex hex_digit signs pairs class_of reserved mark_of word_token number_token hex_from hex_token text_token sign_token token_at any_for want_at have_at end_at skim_of
lines_hold = refl
