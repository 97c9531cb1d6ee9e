-- Document 01's examples of formulas, computed by the checker.
use Rattle.std.specs.Prelude.{◌≡◌, refl, List, [], ◌∷◌, map, ℕ}
use Prim.Native.String.{String}
use Rattle.whole.specs.Bytes.{bytes, leading}
use Rattle.whole.specs.Digits.{is_digit, value_from, signed_value}
use Rattle.whole.specs.Whole.{num, fit}
use Rattle.whole.specs.Texts.{places, trimmed, digit_byte, numeral, signed_numeral}
use Rattle.whole.specs.declared.errors.Error.{Error}
use Rattle.whole.specs.declared.errors.Error.TheVariants.{Syntax, IllegalFunctionCall, Overflow, TypeMismatch, OutOfStringSpace, StringTooLong}
use Rattle.words.specs.Spellings.{same_bytes, meaning}
use Rattle.words.specs.Classes.{capital_of, is_letter, is_hex, hex_digit, signs, pairs, class_of}
use Rattle.words.specs.Vocabulary.{reserved}
use Rattle.words.specs.Names.{telling, telling_of}
use Rattle.words.specs.Places.{place}
use Rattle.scanner.specs.Tokens.{
  mark_of,
  word_token,
  number_token,
  hex_from,
  hex_token,
  text_token,
  sign_token,
  token_at,
}
use Rattle.grammar.specs.Functions.{form_for, any_for}
use Rattle.grammar.specs.Formulas.{Reading, bad, good, count_of, formula_at, climb_at, operand_at, arguments_at, formula_of}
use Rattle.variables.specs.Strings.{whole, text, Outcome, value, fault, make, let_go, let_all_go, produced}
use Rattle.variables.specs.Variables.{Variables, word_of, bytes_of, string_bytes}
use Rattle.strings.specs.Functions.{argument, starts_with, found, place_of}
use Rattle.operators.specs.Values.{is_before, want_at, value_of, values_of}

-- A$ is "LOT ", of 4 bytes, and B$ is "B"
unfoldable pub given : Variables
given = record {
  numbers = [];
  strings =
      record { name = bytes "A"; bytes = bytes "LOT " }
      ∷ record { name = bytes "B"; bytes = bytes "B" }
      ∷ [];
}

-- a formula's outcome in a space of so many bytes
abbrev worked : Reading → ℕ → Outcome
worked bad space = fault Syntax (record { limit = space; live = 0; unfinished = 0; highest = 0 })
worked (good f t) space =
    value_of f given (record { limit = space; live = string_bytes given.strings; unfinished = 0; highest = 0 })

-- what is told of it: its value or error, how many bytes are live then, and the most strings that were unfinished at once
pub data Told : Type 0 where
  number : ℕ → ℕ → ℕ → Told
  string : List ℕ → ℕ → ℕ → Told
  failure : Error → Told

abbrev told : Outcome → Told
told (value (whole w) room) = number w room.live room.highest
told (value (text b) room) = string b room.live room.highest
told (fault e room) = failure e

pub record Example : Type 0 where
  pub formula : String
  pub space : ℕ
  pub is : Told

-- B$ is live with A$: one byte more than A$ alone would need
pub examples : List Example
examples =
    record { formula = "A$+A$"; space = 21; is = string (bytes "LOT LOT ") 13 3 }
    ∷ record { formula = "A$+A$"; space = 20; is = failure OutOfStringSpace }
    ∷ record { formula = "INSTR(4,\"ABCDEB\",\"B\")"; space = 12; is = number 6 5 2 }
    ∷ record { formula = "INSTR(4,\"ABCDEB\",\"B\")"; space = 11; is = failure OutOfStringSpace }
    ∷ record { formula = "INSTR(\"\",\"\")"; space = 5; is = number 0 5 2 }
    ∷ record { formula = "LEFT$(A$,3)+MID$(A$,4)"; space = 17; is = string (bytes "LOT ") 9 3 }
    ∷ record { formula = "STRING$(255,65)+B$"; space = 1000; is = failure StringTooLong }
    ∷ record { formula = "STRING$(255,65)+B$"; space = 261; is = failure StringTooLong }
    ∷ record { formula = "CHR$(256)"; space = 0; is = failure IllegalFunctionCall }
    ∷ record { formula = "A$<B$"; space = 10; is = number 0 5 2 }
    ∷ record { formula = "A$<A$+B$"; space = 23; is = number 65535 5 4 }
    ∷ record { formula = "1+A$*B$"; space = 9; is = failure TypeMismatch }
    ∷ record { formula = "FRE(A$+B$)"; space = 100; is = number 95 5 3 }
    ∷ record { formula = "32767+1"; space = 5; is = failure Overflow }
    ∷ []

pub examples_hold : map (λ (e : Example). told (worked (formula_of (bytes e.formula) (token_at (bytes e.formula) (place 0))) e.space)) examples
    ≡ map (λ (e : Example). e.is) examples
unfolding examples given bytes leading is_digit value_from same_bytes meaning capital_of is_letter is_hex hex_digit signs pairs class_of reserved telling telling_of mark_of word_token number_token hex_from hex_token text_token sign_token token_at form_for any_for count_of formula_at climb_at operand_at arguments_at formula_of signed_value num fit places trimmed digit_byte numeral signed_numeral make let_go let_all_go produced word_of bytes_of string_bytes argument starts_with found place_of is_before want_at value_of values_of
examples_hold = refl

-- eight functions in one another, a comparison and a `+` waiting at each: 28 unfinished strings, the most that there can be
pub nested : String
nested = "A$<B$+LEFT$(A$,A$<B$+LEFT$(A$,A$<B$+LEFT$(A$,A$<B$+LEFT$(A$,A$<B$+LEFT$(A$,A$<B$+LEFT$(A$,A$<B$+LEFT$(A$,A$<B$+LEFT$(A$,A$<B$+B$))))))))"

pub nested_highest : told (worked (formula_of (bytes nested) (token_at (bytes nested) (place 0))) 1000) ≡ number 0 5 28
unfolding nested given bytes leading is_digit value_from same_bytes meaning capital_of is_letter is_hex hex_digit signs pairs class_of reserved telling telling_of mark_of word_token number_token hex_from hex_token text_token sign_token token_at form_for any_for count_of formula_at climb_at operand_at arguments_at formula_of signed_value num fit places trimmed digit_byte numeral signed_numeral make let_go let_all_go produced word_of bytes_of string_bytes argument starts_with found place_of is_before want_at value_of values_of
nested_highest = refl
