-- Worked examples, computed by the checker: bounds that runs reach, and that what is left out of a bounded recipe would break the bound.
use Rattle.std.specs.Prelude.{◌≡◌, refl, Bool, true, false, List, [], ◌∷◌, map, ℕ}
use Prim.Native.String.{String}
use Rattle.whole.specs.Bytes.{bytes, leading}
use Rattle.whole.specs.Digits.{is_digit, value_from, signed_value}
use Rattle.whole.specs.Whole.{num, fit}
use Rattle.whole.specs.Texts.{places, trimmed, digit_byte, numeral, signed_numeral}
use Rattle.words.specs.Spellings.{same_bytes, meaning}
use Rattle.words.specs.Classes.{capital_of, is_letter, is_hex, hex_digit, signs, pairs, class_of}
use Rattle.words.specs.Vocabulary.{reserved}
use Rattle.words.specs.Names.{telling, telling_of}
use Rattle.words.specs.Places.{line_number}
use Rattle.scanner.specs.Tokens.{mark_of, word_token, number_token, hex_from, hex_token, text_token, sign_token, token_at}
use Rattle.loader.specs.Lines.{lines_from, number_of, from_number}
use Rattle.loader.specs.Loading.{is_plain, numbered, judged, load_lines, load_of}
use Rattle.grammar.specs.Functions.{form_for, any_for}
use Rattle.grammar.specs.Formulas.{count_of, formula_at, climb_at, operand_at, arguments_at, formula_of}
use Rattle.expressions.specs.Types.{depth_of, deepest_of}
use Rattle.statements.specs.Statements.{items_at, print_at, for_at, input_at, begun_at, part_at, read_line}
use Rattle.statements.specs.Parts.{deepest, parts_of, heads, deepest_in}
use Rattle.variables.specs.Strings.{make, let_go, let_all_go, produced}
use Rattle.variables.specs.Variables.{word_of, bytes_of, string_bytes, has_number, has_string, set_number, set_string, joined_strings}
use Rattle.strings.specs.Functions.{argument, starts_with, found, place_of}
use Rattle.operators.specs.Values.{is_before, want_at, value_of, values_of}
use Rattle.machine.specs.Machine.{column_after, write, sought, passed}
use Rattle.machine.specs.Order.{beyond, placed, stands, later, partner}
use Rattle.turns.specs.Steps.{print_items}
use Rattle.runner.specs.Run.{enter, running, run_of}
use Rattle.runner.specs.declared.running.Outcome.{Outcome}
use Rattle.runner.specs.declared.running.Outcome.TheVariants.{Ended, Out}
use Rattle.bounding.specs.Bounding.{all_jump_on, statements_in, is_bounded}

-- a recipe and a budget; whether the recipe is bounded, how many statements it has, how its run ends and after how many steps
pub record Example : Type 0 where
  pub recipe : String
  pub budget : ℕ
  pub bounded : Bool
  pub statements : ℕ
  pub ending : Outcome
  pub steps : ℕ

abbrev example : String → ℕ → Bool → ℕ → Outcome → ℕ → Example
example recipe budget bounded statements ending steps =
    record { recipe = recipe; budget = budget; bounded = bounded; statements = statements; ending = ending; steps = steps }

abbrev worked : Example → Example
worked e =
    let text = bytes e.recipe in
    let r = run_of text [] (record { space = 100; room = 100; records = 32 }) e.budget in
    example e.recipe e.budget (is_bounded text) (statements_in text) r.ending r.machine.steps

pub recipes : List Example
recipes =
    -- all statements in their order, with just such a budget, and with one less
    example "10 A=1:B=2\n20 C=3" 3 true 3 Ended 3
    ∷ example "10 A=1:B=2\n20 C=3" 2 true 3 (Out (line_number 20)) 2
    -- one branch of two, an implied GOTO
    ∷ example "10 IF A THEN B=1 ELSE 30\n20 STOP\n30" 9 true 5 Ended 3
    -- back to its own line, by a loop, and by a call, more steps than statements
    ∷ example "10 A=A+1:IF A<3 THEN 10" 9 false 3 Ended 8
    ∷ example "10 FOR I=1 TO 3\n20 NEXT" 9 false 2 Ended 4
    ∷ example "10 WHILE I<2:I=I+1:WEND" 9 false 3 Ended 7
    ∷ []

pub recipes_hold : map worked recipes ≡ recipes
unfolding recipes bytes leading is_digit value_from same_bytes meaning capital_of is_letter is_hex hex_digit signs pairs class_of reserved telling telling_of mark_of word_token number_token hex_from hex_token text_token sign_token token_at lines_from number_of is_plain numbered judged load_lines load_of form_for any_for count_of formula_at climb_at operand_at arguments_at formula_of depth_of deepest_of items_at print_at for_at input_at begun_at part_at read_line deepest parts_of heads deepest_in signed_value num fit places trimmed digit_byte numeral signed_numeral from_number make let_go let_all_go produced word_of bytes_of string_bytes argument starts_with found place_of is_before want_at value_of values_of has_number has_string set_number set_string column_after write print_items sought passed enter running run_of joined_strings beyond placed stands later partner all_jump_on
recipes_hold = refl
