-- Document 01's worked examples, loops that are skipped, and WHILE and WEND, computed by the checker.
use Rattle.std.specs.Prelude.{◌≡◌, refl, List, [], ◌∷◌, map, ℕ}
use Prim.Native.String.{String}
use Rattle.whole.specs.Bytes.{bytes, leading}
use Rattle.whole.specs.Digits.{is_digit, value_from, signed_value, sign_length, digits_only, number_item}
use Rattle.whole.specs.Whole.{num, fit}
use Rattle.whole.specs.Texts.{places, trimmed, digit_byte, numeral, signed_numeral}
use Rattle.whole.specs.declared.errors.Error.TheVariants.{NextWithoutFor, OutOfData, IllegalFunctionCall, Overflow, UndefinedLine, TypeMismatch, OutOfStringSpace, ForWithoutNext, WhileWithoutWend, WendWithoutWhile}
use Rattle.words.specs.Spellings.{same_bytes, meaning}
use Rattle.words.specs.Classes.{capital_of, is_letter, is_hex, hex_digit, signs, pairs, class_of}
use Rattle.words.specs.Vocabulary.{reserved}
use Rattle.words.specs.Names.{telling, telling_of}
use Rattle.words.specs.Places.{line_number}
use Rattle.scanner.specs.Tokens.{mark_of, word_token, number_token, hex_from, hex_token, text_token, sign_token, token_at}
use Rattle.items.specs.Items as item
use Rattle.items.specs.Items.{ended, quoted_item, cut, bare_item, item_at}
use Rattle.loader.specs.Lines.{lines_from, number_of, from_number}
use Rattle.loader.specs.Loading.{is_plain, numbered, judged, load_lines, load_of}
use Rattle.grammar.specs.Functions.{form_for, any_for}
use Rattle.grammar.specs.Formulas.{count_of, formula_at, climb_at, operand_at, arguments_at, formula_of}
use Rattle.expressions.specs.Types.{depth_of, deepest_of}
use Rattle.statements.specs.Statements.{items_at, print_at, for_at, input_at, data_at, names_at, read_at, begun_at, part_at, read_line}
use Rattle.statements.specs.Parts.{deepest, parts_of, heads, deepest_in}
use Rattle.variables.specs.Strings.{make, let_go, let_all_go, produced}
use Rattle.variables.specs.Variables.{word_of, bytes_of, string_bytes, has_number, has_string, set_number, set_string, joined_strings}
use Rattle.strings.specs.Functions.{argument, starts_with, found, place_of}
use Rattle.operators.specs.Values.{is_before, want_at, value_of, values_of}
use Rattle.machine.specs.Machine.{Lent, column_after, write, sought, passed}
use Rattle.machine.specs.Items.{items_of}
use Rattle.machine.specs.Order.{beyond, placed, stands, later, partner}
use Rattle.turns.specs.Steps.{print_items, read_items}
use Rattle.runner.specs.Run.{Ran, enter, running, run_of}
use Rattle.runner.specs.declared.running.Outcome.{Outcome}
use Rattle.runner.specs.declared.running.Outcome.TheVariants.{Ended, Failed}

-- how a recipe ends in a space, what it printed, the steps, and the front of the space
pub record Run : Type 0 where
  pub ending : Outcome
  pub output : List ℕ
  pub steps : ℕ
  pub front : List ℕ

-- a string space of so many bytes, room for all that the examples print, and document 01's 32 records
abbrev pub lending : ℕ → Lent
lending space = record { space = space; room = 1000; records = 32 }

abbrev summed : Ran → Run
summed r = record {
  ending = r.ending;
  output = r.machine.output;
  steps = r.machine.steps;
  front = joined_strings r.machine.variables.strings;
}

pub record Example : Type 0 where
  pub recipe : String
  pub space : ℕ
  pub run : Run

abbrev example : String → ℕ → Outcome → String → ℕ → String → Example
example recipe space ending output steps front =
    record { recipe = recipe; space = space; run = record { ending = ending; output = bytes output; steps = steps; front = bytes front } }

pub examples : List Example
examples =
    example "10 A$=\"LOT \"\n20 FOR I=1 TO 2\n30 PRINT A$;I\n40 NEXT I" 16 Ended "LOT  1 \r\nLOT  2 \r\n" 6 "LOT "
    ∷ example "10 A$=\"LOT \"\n20 FOR I=1 TO 2\n30 PRINT A$;I\n40 NEXT I" 8 Ended "LOT  1 \r\nLOT  2 \r\n" 6 "LOT "
    ∷ example "10 A$=\"LOT \"\n20 FOR I=1 TO 2\n30 PRINT A$;I\n40 NEXT I" 7 (Failed OutOfStringSpace (line_number 30)) "" 3 "LOT "
    ∷ example "10 A$=\"LOT \"\n20 A$=A$+A$" 20 Ended "" 2 "LOT LOT "
    ∷ example "10 A$=\"LOT \"\n20 A$=A$+A$" 19 (Failed OutOfStringSpace (line_number 20)) "" 2 "LOT "
    ∷ example "10 PRINT -7\\2;-7 MOD 2;7 MOD -2" 0 Ended "-3 -1  1 \r\n" 1 ""
    ∷ example "10 A=32767+1" 0 (Failed Overflow (line_number 10)) "" 1 ""
    ∷ example "10 A=&H8000\\-1" 0 (Failed Overflow (line_number 10)) "" 1 ""
    ∷ example "10 PRINT &H8000 MOD -1" 0 Ended " 0 \r\n" 1 ""
    ∷ example "10 PRINT INSTR(4,\"ABCDEB\",\"B\");INSTR(\"\",\"\")" 16 Ended " 6  0 \r\n" 1 ""
    ∷ example "10 PRINT -1 AND 8" 0 Ended " 8 \r\n" 1 ""
    ∷ example "10 IF 0 THEN A$=5" 0 Ended "" 1 ""
    ∷ example "" 0 Ended "" 0 ""
    ∷ []

pub examples_hold : map (λ (e : Example). summed (run_of (bytes e.recipe) [] (lending e.space) 1000)) examples ≡ map (λ (e : Example). e.run) examples
unfolding examples bytes leading is_digit value_from same_bytes meaning capital_of is_letter is_hex hex_digit signs pairs class_of reserved telling telling_of mark_of word_token number_token hex_from hex_token text_token sign_token token_at lines_from number_of is_plain numbered judged load_lines load_of form_for any_for count_of formula_at climb_at operand_at arguments_at formula_of depth_of deepest_of items_at print_at for_at input_at begun_at part_at read_line deepest parts_of heads deepest_in signed_value num fit places trimmed digit_byte numeral signed_numeral from_number make let_go let_all_go produced word_of bytes_of string_bytes argument starts_with found place_of is_before want_at value_of values_of has_number has_string set_number set_string column_after write print_items sought passed enter running run_of joined_strings
examples_hold = refl

-- a FOR whose start is past its limit (document 02, M-102)
pub skipped_loops : List Example
skipped_loops =
    example "10 FOR I=1 TO 0\n20 PRINT \"PULSE\"\n30 NEXT I\n40 PRINT I" 0 Ended " 1 \r\n" 2 ""
    -- an inner FOR is paired first, whatever its NEXT names
    ∷ example "10 FOR I=1 TO 0:FOR J=1 TO 9:NEXT K:NEXT:PRINT 5" 0 Ended " 5 \r\n" 2 ""
    -- branches count, and a line that does not read is passed over
    ∷ example "10 FOR I=1 TO 0\n20 NEXT)\n30 IF A THEN NEXT I ELSE NEXT" 0 Ended "" 1 ""
    ∷ example "10 FOR I=1 TO 0" 0 (Failed ForWithoutNext (line_number 10)) "" 1 ""
    ∷ example "10 FOR I=1 TO 0:NEXT J" 0 (Failed NextWithoutFor (line_number 10)) "" 1 ""
    ∷ example "10 FOR I=1 TO 0:NEXT I$" 0 (Failed NextWithoutFor (line_number 10)) "" 1 ""
    -- a start that is the limit is not past it, and step 0 never is
    ∷ example "10 FOR I=5 TO 5 STEP -1:PRINT I:NEXT" 0 Ended " 5 \r\n" 3 ""
    ∷ example "10 FOR I=2 TO 1 STEP 0:PRINT I" 0 Ended " 2 \r\n" 2 ""
    ∷ []

pub skipped_loops_hold : map (λ (e : Example). summed (run_of (bytes e.recipe) [] (lending e.space) 1000)) skipped_loops
    ≡ map (λ (e : Example). e.run) skipped_loops
unfolding skipped_loops bytes leading is_digit value_from same_bytes meaning capital_of is_letter is_hex hex_digit signs pairs class_of reserved telling telling_of mark_of word_token number_token hex_from hex_token text_token sign_token token_at lines_from number_of is_plain numbered judged load_lines load_of form_for any_for count_of formula_at climb_at operand_at arguments_at formula_of depth_of deepest_of items_at print_at for_at input_at begun_at part_at read_line deepest parts_of heads deepest_in signed_value num fit places trimmed digit_byte numeral signed_numeral from_number make let_go let_all_go produced word_of bytes_of string_bytes argument starts_with found place_of is_before want_at value_of values_of has_number has_string set_number set_string column_after write print_items sought passed enter running run_of joined_strings beyond placed stands later partner
skipped_loops_hold = refl

-- WHILE and WEND (document 02, M-100)
pub repeated_loops : List Example
repeated_loops =
    example "10 WHILE I<3:I=I+1:WEND:PRINT I" 0 Ended " 3 \r\n" 11 ""
    -- an inner WHILE is paired first, branches count, and a line that does not read is passed over
    ∷ example "10 WHILE A:WHILE B\n20 WEND)\n30 IF C THEN WEND ELSE WEND:PRINT 5" 0 Ended " 5 \r\n" 2 ""
    -- 29 is tested before the condition
    ∷ example "10 WHILE \"\"" 0 (Failed WhileWithoutWend (line_number 10)) "" 1 ""
    ∷ example "10 WHILE \"\":WEND" 0 (Failed TypeMismatch (line_number 10)) "" 1 ""
    -- into the body, and no record is there; nor is it looked for past a GOSUB
    ∷ example "10 GOTO 30\n20 WHILE 1\n30 WEND" 0 (Failed WendWithoutWhile (line_number 30)) "" 2 ""
    ∷ example "10 WHILE 1:GOSUB 20\n20 WEND" 0 (Failed WendWithoutWhile (line_number 20)) "" 3 ""
    -- back to the WHILE by a jump: its own record is found, and no second one is made
    ∷ example "10 WHILE I<50:I=I+1:GOTO 10:WEND\n20 PRINT I" 0 Ended " 50 \r\n" 152 ""
    -- NEXT takes the FOR's record and drops the WHILE's above it
    ∷ example "10 FOR I=1 TO 2:WHILE 1:NEXT:WEND" 0 (Failed WendWithoutWhile (line_number 10)) "" 6 ""
    ∷ []

pub repeated_loops_hold : map (λ (e : Example). summed (run_of (bytes e.recipe) [] (lending e.space) 1000)) repeated_loops
    ≡ map (λ (e : Example). e.run) repeated_loops
unfolding repeated_loops bytes leading is_digit value_from same_bytes meaning capital_of is_letter is_hex hex_digit signs pairs class_of reserved telling telling_of mark_of word_token number_token hex_from hex_token text_token sign_token token_at lines_from number_of is_plain numbered judged load_lines load_of form_for any_for count_of formula_at climb_at operand_at arguments_at formula_of depth_of deepest_of items_at print_at for_at input_at begun_at part_at read_line deepest parts_of heads deepest_in signed_value num fit places trimmed digit_byte numeral signed_numeral from_number make let_go let_all_go produced word_of bytes_of string_bytes argument starts_with found place_of is_before want_at value_of values_of has_number has_string set_number set_string column_after write print_items sought passed enter running run_of joined_strings beyond placed stands later partner
repeated_loops_hold = refl

-- DATA, READ and RESTORE (document 02, M-105)
pub readings : List Example
readings =
    -- ELSE is text in a bare item, outer blanks are cut, and a quoted item may be read as a number
    example "10 READ A$,B,C$\n20 PRINT A$;B;C$\n30 DATA 1 ELSE 2,\"7\", a b " 40 Ended "1 ELSE 2 7 a b\r\n" 3 "1 ELSE 2a b"
    -- items of any branch count, and a line that does not read holds none
    ∷ example "10 IF 0 THEN DATA 1:ELSE GOTO 30\n20 DATA 2\"\n30 READ A,B:PRINT A;B\n40 DATA 3" 0 Ended " 1  3 \r\n" 5 ""
    -- past the last is 4; more than a sign and digits is 5, out of range 6
    ∷ example "10 READ A,B\n20 DATA 1" 0 (Failed OutOfData (line_number 10)) "" 1 ""
    ∷ example "10 READ A\n20 DATA 1 2" 0 (Failed IllegalFunctionCall (line_number 10)) "" 1 ""
    ∷ example "10 READ A\n20 DATA -32769" 0 (Failed Overflow (line_number 10)) "" 1 ""
    -- all again, or those from a line on, which must be there
    ∷ example "10 READ A,B:RESTORE 30:READ C:RESTORE:READ D:PRINT A;B;C;D\n20 DATA 1\n30 DATA 2" 0 Ended " 1  2  2  1 \r\n" 8 ""
    ∷ example "10 RESTORE 15\n20 DATA 1" 0 (Failed UndefinedLine (line_number 10)) "" 1 ""
    -- what was read before is live
    ∷ example "10 READ A$,B$\n20 DATA AB,CD" 4 Ended "" 2 "ABCD"
    ∷ example "10 READ A$,B$\n20 DATA AB,CD" 3 (Failed OutOfStringSpace (line_number 10)) "" 1 "AB"
    ∷ []

pub readings_hold : map (λ (e : Example). summed (run_of (bytes e.recipe) [] (lending e.space) 1000)) readings
    ≡ map (λ (e : Example). e.run) readings
unfolding readings bytes leading is_digit value_from same_bytes meaning capital_of is_letter is_hex hex_digit signs pairs class_of reserved telling telling_of mark_of word_token number_token hex_from hex_token text_token sign_token token_at lines_from number_of is_plain numbered judged load_lines load_of form_for any_for count_of formula_at climb_at operand_at arguments_at formula_of depth_of deepest_of items_at print_at for_at input_at begun_at part_at read_line deepest parts_of heads deepest_in signed_value num fit places trimmed digit_byte numeral signed_numeral from_number make let_go let_all_go produced word_of bytes_of string_bytes argument starts_with found place_of is_before want_at value_of values_of has_number has_string set_number set_string column_after write print_items sought passed enter running run_of joined_strings beyond placed stands later partner ended quoted_item cut bare_item item_at item.items_at data_at names_at read_at sign_length digits_only number_item items_of read_items
readings_hold = refl

-- eight functions in one another, a comparison and a `+` waiting at each: 28 unfinished strings, the most that there can be
pub nested : String
nested = "10 A$=\"B\":B$=\"A\"\n20 N=A$<B$+LEFT$(A$,A$<B$+LEFT$(A$,A$<B$+LEFT$(A$,A$<B$+LEFT$(A$,A$<B$+LEFT$(A$,A$<B$+LEFT$(A$,A$<B$+LEFT$(A$,A$<B$+LEFT$(A$,A$<B$+B$))))))))"

pub nested_highest : (run_of (bytes nested) [] (lending 1000) 1000).machine.highest ≡ 28
unfolding nested bytes leading is_digit value_from same_bytes meaning capital_of is_letter is_hex hex_digit signs pairs class_of reserved telling telling_of mark_of word_token number_token hex_from hex_token text_token sign_token token_at lines_from number_of is_plain numbered judged load_lines load_of form_for any_for count_of formula_at climb_at operand_at arguments_at formula_of depth_of deepest_of items_at print_at for_at input_at begun_at part_at read_line deepest parts_of heads deepest_in signed_value num fit places trimmed digit_byte numeral signed_numeral from_number make let_go let_all_go produced word_of bytes_of string_bytes argument starts_with found place_of is_before want_at value_of values_of has_number has_string set_number set_string column_after write print_items sought passed enter running run_of joined_strings
nested_highest = refl
