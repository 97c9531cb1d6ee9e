-- Which recipes are without FRE, and that those with it are rightly left out, computed by the checker.
use Rattle.std.specs.Prelude.{◌≡◌, refl, Bool, true, false, List, [], ◌∷◌, map, ℕ}
use Prim.Native.String.{String}
use Rattle.whole.specs.Bytes.{bytes, leading}
use Rattle.whole.specs.Digits.{is_digit, value_from, signed_value}
use Rattle.whole.specs.Whole.{num, fit}
use Rattle.whole.specs.Texts.{places, trimmed, digit_byte, numeral, signed_numeral}
use Rattle.whole.specs.declared.errors.Error.TheVariants.{OutOfStringSpace}
use Rattle.words.specs.Spellings.{same_bytes, meaning}
use Rattle.words.specs.Classes.{capital_of, is_letter, is_hex, hex_digit, signs, pairs, class_of}
use Rattle.words.specs.Vocabulary.{reserved}
use Rattle.words.specs.Names.{telling, telling_of}
use Rattle.words.specs.Places.{line_number}
use Rattle.scanner.specs.Tokens.{mark_of, word_token, number_token, hex_from, hex_token, text_token, sign_token, token_at}
use Rattle.loader.specs.Lines.{lines_from, number_of, from_number}
use Rattle.loader.specs.Loading.{is_plain, numbered, judged, load_lines, load_of}
use Rattle.grammar.specs.Functions.{form_for, any_for}
use Rattle.grammar.specs.Formulas.{count_of, formula_at, climb_at, operand_at, arguments_at, formula_of}
use Rattle.expressions.specs.Types.{depth_of, deepest_of}
use Rattle.statements.specs.Statements.{items_at, print_at, for_at, input_at, begun_at, part_at, read_line}
use Rattle.statements.specs.Parts.{deepest, parts_of, heads, deepest_in}
use Rattle.variables.specs.Strings.{make, let_go, let_all_go, produced}
use Rattle.variables.specs.Variables.{word_of, bytes_of, string_bytes, has_number, has_string, set_number, set_string, joined_strings}
use Rattle.strings.specs.Functions.{argument, starts_with, found, place_of}
use Rattle.operators.specs.Values.{is_before, want_at, value_of, values_of}
use Rattle.machine.specs.Machine.{column_after, write, sought, passed}
use Rattle.machine.specs.Order.{placed, stands}
use Rattle.turns.specs.Steps.{print_items}
use Rattle.runner.specs.Run.{Ran, enter, running, run_of}
use Rattle.runner.specs.declared.running.Outcome.{Outcome}
use Rattle.runner.specs.declared.running.Outcome.TheVariants.{Ended, Failed}
use Rattle.runner.specs.Examples.{lending}
use Rattle.laws.specs.Laws.{without_fre}
use Rattle.larger.specs.Larger.{no_fre_in, no_fre_among, recipe_without_fre}

-- ---- recipes without FRE

pub record Recipe : Type 0 where
  pub text : String
  pub without : Bool

pub recipes : List Recipe
recipes =
    record { text = "10 A$=\"FRE(0)\":REM FRE(0)"; without = true }
    ∷ record { text = "10 A=FRE(0)"; without = false }
    -- in an argument, and in a branch that is never run
    ∷ record { text = "10 PRINT STR$(1+FRE(A$))"; without = false }
    ∷ record { text = "10 IF 0 THEN IF 1 THEN 10 ELSE PRINT FRE(0)"; without = false }
    ∷ record { text = "10 END\n20 FOR I=1 TO 2 STEP FRE(0)"; without = false }
    ∷ record { text = "10 WHILE FRE(0):WEND"; without = false }
    -- a line that does not read
    ∷ record { text = "10 PRINT FRE(0"; without = true }
    ∷ []

pub recipes_hold : map (λ (e : Recipe). recipe_without_fre (bytes e.text)) recipes ≡ map (λ (e : Recipe). e.without) recipes
unfolding recipes bytes leading is_digit value_from same_bytes meaning capital_of is_letter is_hex hex_digit signs pairs class_of reserved telling telling_of mark_of word_token number_token hex_from hex_token text_token sign_token token_at lines_from number_of form_for any_for count_of formula_at climb_at operand_at arguments_at formula_of depth_of deepest_of items_at print_at for_at input_at begun_at part_at read_line deepest parts_of heads deepest_in placed stands without_fre no_fre_in no_fre_among
recipes_hold = refl

-- ---- a recipe in two spaces

-- how it ends, what it printed, and the steps
pub record Told : Type 0 where
  pub ending : Outcome
  pub output : List ℕ
  pub steps : ℕ

abbrev told_of : Ran → Told
told_of r = record { ending = r.ending; output = r.machine.output; steps = r.machine.steps }

-- what it comes to in the first space, in the second and so on
pub record Example : Type 0 where
  pub recipe : String
  pub spaces : List ℕ
  pub runs : List Told

abbrev ended : String → ℕ → Told
ended output steps = record { ending = Ended; output = bytes output; steps = steps }

-- the exclusion is needed: with FRE a larger space may change what is printed, and how many steps there are
pub with_fre : List Example
with_fre =
    record { recipe = "10 PRINT FRE(0)"; spaces = 10 ∷ 11 ∷ []; runs = ended " 10 \r\n" 1 ∷ ended " 11 \r\n" 1 ∷ [] }
    ∷ record { recipe = "10 IF FRE(0)>10 THEN 20\n20 END"; spaces = 10 ∷ 11 ∷ []; runs = ended "" 2 ∷ ended "" 3 ∷ [] }
    ∷ []

pub fre_tells : map (λ (e : Example). map (λ (n : ℕ). told_of (run_of (bytes e.recipe) [] (lending n) 100)) e.spaces) with_fre ≡ map (λ (e : Example). e.runs) with_fre
unfolding with_fre bytes leading is_digit value_from same_bytes meaning capital_of is_letter is_hex hex_digit signs pairs class_of reserved telling telling_of mark_of word_token number_token hex_from hex_token text_token sign_token token_at lines_from number_of is_plain numbered judged load_lines load_of form_for any_for count_of formula_at climb_at operand_at arguments_at formula_of depth_of deepest_of items_at print_at for_at input_at begun_at part_at read_line deepest parts_of heads deepest_in signed_value num fit places trimmed digit_byte numeral signed_numeral from_number make let_go let_all_go produced word_of bytes_of string_bytes argument starts_with found place_of is_before want_at value_of values_of has_number has_string set_number set_string column_after write print_items sought passed enter running run_of joined_strings
fre_tells = refl

-- and so is that the first run does not end in 14: there more space may help, and from where it suffices on nothing changes
pub with_fourteen : List Example
with_fourteen =
    record {
      recipe = "10 A$=\"AB\"\n20 PRINT A$";
      spaces = 1 ∷ 3 ∷ 4 ∷ 16384 ∷ [];
      runs =
          record { ending = Failed OutOfStringSpace (line_number 10); output = []; steps = 1 }
          ∷ record { ending = Failed OutOfStringSpace (line_number 20); output = []; steps = 2 }
          ∷ ended "AB\r\n" 2
          ∷ ended "AB\r\n" 2
          ∷ [];
    }
    ∷ []

pub more_may_help : map (λ (e : Example). map (λ (n : ℕ). told_of (run_of (bytes e.recipe) [] (lending n) 100)) e.spaces) with_fourteen ≡ map (λ (e : Example). e.runs) with_fourteen
unfolding with_fourteen bytes leading is_digit value_from same_bytes meaning capital_of is_letter is_hex hex_digit signs pairs class_of reserved telling telling_of mark_of word_token number_token hex_from hex_token text_token sign_token token_at lines_from number_of is_plain numbered judged load_lines load_of form_for any_for count_of formula_at climb_at operand_at arguments_at formula_of depth_of deepest_of items_at print_at for_at input_at begun_at part_at read_line deepest parts_of heads deepest_in signed_value num fit places trimmed digit_byte numeral signed_numeral from_number make let_go let_all_go produced word_of bytes_of string_bytes argument starts_with found place_of is_before want_at value_of values_of has_number has_string set_number set_string column_after write print_items sought passed enter running run_of joined_strings
more_may_help = refl
