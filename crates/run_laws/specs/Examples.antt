-- The laws and their exceptions in recipes, computed by the checker.
use Rattle.std.specs.Prelude.{◌≡◌, refl, List, [], ◌∷◌, map, ℕ}
use Prim.Native.String.{String}
use Rattle.whole.specs.Bytes.{bytes, leading}
use Rattle.whole.specs.Digits.{is_digit, value_from, signed_value}
use Rattle.whole.specs.Whole.{num, fit}
use Rattle.whole.specs.Texts.{places, trimmed, digit_byte, numeral, signed_numeral}
use Rattle.whole.specs.declared.errors.Error.TheVariants.{IllegalFunctionCall, Overflow, OutOfStringSpace, StringTooLong}
use Rattle.words.specs.Spellings.{same_bytes, meaning}
use Rattle.words.specs.Classes.{capital_of, is_letter, is_hex, hex_digit, signs, pairs, class_of}
use Rattle.words.specs.Vocabulary.{reserved}
use Rattle.words.specs.Names.{telling, telling_of}
use Rattle.words.specs.Places.{line_number}
use Rattle.scanner.specs.Tokens.{mark_of, word_token, number_token, hex_from, hex_token, text_token, sign_token, token_at}
use Rattle.loader.specs.Lines.{lines_from, number_of, from_number}
use Rattle.loader.specs.Loading.{is_plain, numbered, judged, load_lines, load_of}
use Rattle.grammar.specs.Functions.{form_for, any_for}
use Rattle.grammar.specs.Formulas.{count_of, formula_at, climb_at, operand_at, arguments_at, formula_of}
use Rattle.expressions.specs.Types.{depth_of, deepest_of}
use Rattle.statements.specs.Statements.{items_at, print_at, for_at, input_at, begun_at, part_at, read_line}
use Rattle.statements.specs.Parts.{deepest, parts_of, heads, deepest_in}
use Rattle.variables.specs.Strings.{make, let_go, let_all_go, produced}
use Rattle.variables.specs.Variables.{word_of, bytes_of, string_bytes, has_number, has_string, set_number, set_string, joined_strings}
use Rattle.strings.specs.Functions.{argument, starts_with, found, place_of}
use Rattle.operators.specs.Values.{is_before, want_at, value_of, values_of}
use Rattle.machine.specs.Machine.{column_after, write, sought, passed}
use Rattle.turns.specs.Steps.{print_items}
use Rattle.runner.specs.Run.{enter, running, run_of}
use Rattle.runner.specs.declared.running.Outcome.{Outcome}
use Rattle.runner.specs.declared.running.Outcome.TheVariants.{Ended, Failed}
use Rattle.runner.specs.Examples.{lending}

-- a recipe, the bytes of its string space, and how its run ends
pub record Example : Type 0 where
  pub recipe : String
  pub space : ℕ
  pub ending : Outcome

pub examples : List Example
examples =
    record { recipe = "10 A$=\"AB\"\n20 B$=A$"; space = 5; ending = Ended }
    -- 14 on one side only
    ∷ record { recipe = "10 A$=\"AB\"\n20 B$=LEFT$(A$,1)+MID$(A$,1+1)"; space = 5; ending = Failed OutOfStringSpace (line_number 20) }
    ∷ record { recipe = "10 A$=\"AB\"\n20 B$=LEFT$(A$,1)+MID$(A$,1+1)"; space = 6; ending = Ended }
    -- N of 255
    ∷ record { recipe = "10 A$=\"AB\"\n20 B$=LEFT$(A$,254)+MID$(A$,254+1)"; space = 100; ending = Ended }
    ∷ record { recipe = "10 A$=\"AB\"\n20 B$=LEFT$(A$,255)+MID$(A$,255+1)"; space = 100; ending = Failed IllegalFunctionCall (line_number 20) }
    -- a total of 256
    ∷ record { recipe = "10 B$=(STRING$(128,65)+STRING$(126,66))+\"C\""; space = 1000; ending = Ended }
    ∷ record { recipe = "10 B$=(STRING$(128,65)+STRING$(127,66))+\"C\""; space = 1000; ending = Failed StringTooLong (line_number 10) }
    ∷ record { recipe = "10 B$=STRING$(128,65)+(STRING$(127,66)+\"C\")"; space = 1000; ending = Failed StringTooLong (line_number 10) }
    -- -32768 with -1
    ∷ record { recipe = "10 A=&H8000:B=1\n20 C=(A\\B)*B+A MOD B"; space = 0; ending = Ended }
    ∷ record { recipe = "10 A=&H8000:B=-1\n20 C=(A\\B)*B+A MOD B"; space = 0; ending = Failed Overflow (line_number 20) }
    ∷ []

pub examples_hold : map (λ (e : Example). (run_of (bytes e.recipe) [] (lending e.space) 100).ending) examples ≡ map (λ (e : Example). e.ending) examples
unfolding examples bytes leading is_digit value_from same_bytes meaning capital_of is_letter is_hex hex_digit signs pairs class_of reserved telling telling_of mark_of word_token number_token hex_from hex_token text_token sign_token token_at lines_from number_of is_plain numbered judged load_lines load_of form_for any_for count_of formula_at climb_at operand_at arguments_at formula_of depth_of deepest_of items_at print_at for_at input_at begun_at part_at read_line deepest parts_of heads deepest_in signed_value num fit places trimmed digit_byte numeral signed_numeral from_number make let_go let_all_go produced word_of bytes_of string_bytes argument starts_with found place_of is_before want_at value_of values_of has_number has_string set_number set_string column_after write print_items sought passed enter running run_of joined_strings
examples_hold = refl
