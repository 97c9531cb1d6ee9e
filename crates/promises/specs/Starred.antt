-- Document 01's starred examples, all of them, by one statement over one list: how a run of the recipe comes out, what it printed, its
-- steps, a variable that is asked for after it, the string space that it leaves, and what the check says.
use Rattle.checker.specs.declared.checking.Fault.{Fault}
use Rattle.std.specs.Prelude.{◌≡◌, refl, List, [], ◌∷◌, ◌++◌, map, ℕ, ◌-◌, length, replicate, Result, Ok, Err}
use Prim.Native.String.{String}
use Rattle.whole.specs.Bytes.{bytes, leading}
use Rattle.whole.specs.Digits.{is_digit, value_from, signed_value}
use Rattle.whole.specs.Whole.{num, fit}
use Rattle.whole.specs.Texts.{places, trimmed, digit_byte, numeral, signed_numeral}
use Rattle.whole.specs.declared.errors.Error.TheVariants.{Overflow, TypeMismatch, OutOfStringSpace}
use Rattle.words.specs.Spellings.{same_bytes, meaning}
use Rattle.words.specs.Classes.{capital_of, is_letter, is_hex, hex_digit, signs, pairs, class_of}
use Rattle.words.specs.Vocabulary.{reserved}
use Rattle.words.specs.Names.{telling, telling_of}
use Rattle.words.specs.Places.{line_number}
use Rattle.scanner.specs.Tokens.{mark_of, word_token, number_token, hex_from, hex_token, text_token, sign_token, token_at}
use Rattle.loader.specs.Lines.{lines_from, number_of, from_number}
use Rattle.loader.specs.Loading.{is_plain, numbered, judged, load_lines, load_of}
use Rattle.grammar.specs.Functions.{form_for, any_for}
use Rattle.grammar.specs.Formulas.{count_of, formula_at, climb_at, operand_at, arguments_at, formula_of}
use Rattle.expressions.specs.Types.{all_meet, sort_of, sorts_of, depth_of, deepest_of}
use Rattle.statements.specs.Statements.{items_at, print_at, for_at, input_at, begun_at, part_at, read_line}
use Rattle.statements.specs.Parts.{deepest, all_some, parts_of, heads, deepest_in, all_typed}
use Rattle.variables.specs.Strings.{make, let_go, let_all_go, produced}
use Rattle.variables.specs.Variables.{word_of, bytes_of, string_bytes, has_number, has_string, set_number, set_string, joined_strings}
use Rattle.strings.specs.Functions.{argument, starts_with, found, place_of}
use Rattle.operators.specs.Values.{is_before, want_at, value_of, values_of}
use Rattle.variables.specs.Tables.{names_from, names_in, numbers_in, slot_from, sum_of, empty_tables, name_bytes}
use Rattle.machine.specs.Machine.{column_after, write, sought, passed}
use Rattle.turns.specs.Steps.{print_items}
use Rattle.checker.specs.Check.{present, any_missing, first_fault, check_of}
use Rattle.checker.specs.declared.checking.Fault.TheVariants.{Faulty}
use Rattle.asking.specs.Asking.{ask_of}
use Rattle.runner.specs.Examples.{lending}
use Rattle.runner.specs.Run.{Ran, enter, running, answer_of, space_after, run_of}
use Rattle.loader.specs.declared.refusals.Refusal.{Refusal}
use Rattle.asking.specs.declared.questions.Asked.{Asked}
use Rattle.asking.specs.declared.questions.Asked.TheVariants.{Whole, Text}
use Rattle.runner.specs.declared.running.Outcome.{Outcome}
use Rattle.runner.specs.declared.running.Outcome.TheVariants.{Ended, Failed}

pub record Seen : Type 0 where
  pub outcome : Outcome
  pub output : List ℕ
  pub steps : ℕ
  pub asked : Result Asked Refusal
  pub space : List ℕ
  pub verdict : Result (Unit {0}) Fault

-- a recipe, the bytes of its string space, its budget, the variable that is asked for after it, and what must be seen
pub record Example : Type 0 where
  pub recipe : String
  pub space : ℕ
  pub budget : ℕ
  pub variable : String
  pub seen : Seen

-- the space begins so and is else zero
abbrev zeroed : String → ℕ → List ℕ
zeroed front space = bytes front ++ replicate (space - length (bytes front)) 0

abbrev lot : String
lot = "10 A$=\"LOT \"\n20 FOR I=1 TO 2\n30 PRINT A$;I\n40 NEXT I"

-- a recipe that the check passes, with 100 steps; one variable of it
abbrev passes : String → ℕ → Outcome → String → ℕ → String → Result Asked Refusal → String → Example
passes recipe space outcome output steps variable asked front =
    record {
      recipe = recipe;
      space = space;
      budget = 100;
      variable = variable;
      seen = record {
        outcome = outcome;
        output = bytes output;
        steps = steps;
        asked = asked;
        space = zeroed front space;
        verdict = Ok tt;
      };
    }

pub starred : List Example
starred =
    -- space 16: 18 bytes of output, 6 steps, I is 3; 8 suffices; 7 gives 14 in 30 with no output
    passes lot 16 Ended "LOT  1 \r\nLOT  2 \r\n" 6 "I" (Ok (Whole 3)) "LOT "
    ∷ passes lot 8 Ended "LOT  1 \r\nLOT  2 \r\n" 6 "I" (Ok (Whole 3)) "LOT "
    ∷ passes lot 7 (Failed OutOfStringSpace (line_number 30)) "" 3 "I" (Ok (Whole 1)) "LOT "
    -- A$ of 4 bytes: 20 bytes are needed
    ∷ passes "10 A$=\"LOT \"\n20 A$=A$+A$" 20 Ended "" 2 "A$" (Ok (Text (record { 0 = 0 }) 8)) "LOT LOT "
    ∷ passes "10 A$=\"LOT \"\n20 A$=A$+A$" 19 (Failed OutOfStringSpace (line_number 20)) "" 2 "A$" (Ok (Text (record { 0 = 0 }) 4)) "LOT "
    -- a negative number is asked for as its word
    ∷ passes "10 A=-7\\2:PRINT A" 0 Ended "-3 \r\n" 2 "A" (Ok (Whole 65533)) ""
    ∷ passes "10 A=-7 MOD 2:PRINT A" 0 Ended "-1 \r\n" 2 "A" (Ok (Whole 65535)) ""
    ∷ passes "10 A=7 MOD -2:PRINT A" 0 Ended " 1 \r\n" 2 "A" (Ok (Whole 1)) ""
    ∷ passes "10 A=32767+1" 0 (Failed Overflow (line_number 10)) "" 1 "A" (Ok (Whole 0)) ""
    ∷ passes "10 A=&H8000\\-1" 0 (Failed Overflow (line_number 10)) "" 1 "A" (Ok (Whole 0)) ""
    ∷ passes "10 A=&H8000 MOD -1:PRINT A" 0 Ended " 0 \r\n" 2 "A" (Ok (Whole 0)) ""
    ∷ passes "10 A=INSTR(4,\"ABCDEB\",\"B\"):PRINT A" 7 Ended " 6 \r\n" 2 "A" (Ok (Whole 6)) ""
    ∷ passes "10 A=INSTR(\"\",\"\"):PRINT A" 0 Ended " 0 \r\n" 2 "A" (Ok (Whole 0)) ""
    ∷ passes "10 A=-1 AND 8:PRINT A" 0 Ended " 8 \r\n" 2 "A" (Ok (Whole 8)) ""
    -- the check says 13, the run ends
    ∷ record {
      recipe = "10 IF 0 THEN A$=5";
      space = 0;
      budget = 100;
      variable = "A$";
      seen = record {
        outcome = Ended;
        output = [];
        steps = 1;
        asked = Ok (Text (record { 0 = 0 }) 0);
        space = [];
        verdict = Err (Faulty TypeMismatch (line_number 10));
      };
    }
    -- the empty text, with no step to spare
    ∷ record {
      recipe = "";
      space = 0;
      budget = 0;
      variable = "A";
      seen = record { outcome = Ended; output = []; steps = 0; asked = Ok (Whole 0); space = []; verdict = Ok tt };
    }
    ∷ []

-- what is seen of a run that lends bytes that are not zero
abbrev seen_of : Example → Ran → Seen
seen_of e r = record {
  outcome = r.ending;
  output = r.machine.output;
  steps = r.machine.steps;
  asked = ask_of (answer_of r empty_tables).tables e.space (bytes e.variable);
  space = space_after r (replicate e.space 255);
  verdict = check_of (bytes e.recipe);
}

pub starred_hold : map (λ (e : Example). seen_of e (run_of (bytes e.recipe) [] (lending e.space) e.budget)) starred ≡ map (λ (e : Example). e.seen) starred
unfolding starred bytes leading is_digit value_from same_bytes meaning capital_of is_letter is_hex hex_digit signs pairs class_of reserved telling telling_of mark_of word_token number_token hex_from hex_token text_token sign_token token_at lines_from number_of is_plain numbered judged load_lines load_of form_for any_for count_of formula_at climb_at operand_at arguments_at formula_of all_meet sort_of sorts_of depth_of deepest_of items_at print_at for_at input_at begun_at part_at read_line deepest all_some parts_of heads deepest_in all_typed signed_value num fit places trimmed digit_byte numeral signed_numeral from_number make let_go let_all_go produced word_of bytes_of string_bytes argument starts_with found place_of is_before want_at value_of values_of has_number has_string set_number set_string column_after write print_items sought passed enter running run_of joined_strings present any_missing first_fault check_of ask_of names_from names_in numbers_in slot_from sum_of name_bytes
starred_hold = refl
