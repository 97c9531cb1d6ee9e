-- A recipe that no check may pass: it names a line that it has not.
use mathlib.Core.Path.{◌≡◌, refl, sym, ◌∙◌}
use mathlib.Core.Bool.{false, false≢true}
use mathlib.Core.List.{List, []}
use Prim.Native.Nat.{ℕ}
use Rattle.runner.specs.Examples.{lending}
use Rattle.promises.specs.Impostors.{PassingEverythingFalls}
use Rattle.promises.specs.Passing.{ends_well}
use Rattle.whole.specs.Bytes.{bytes, leading}
use Rattle.whole.specs.Digits.{is_digit, value_from, signed_value}
use Rattle.whole.specs.Whole.{num, fit}
use Rattle.whole.specs.Texts.{places, trimmed, digit_byte, numeral, signed_numeral}
use Rattle.words.specs.Spellings.{same_bytes, meaning}
use Rattle.words.specs.Classes.{capital_of, is_letter, is_hex, hex_digit, signs, pairs, class_of}
use Rattle.words.specs.Vocabulary.{reserved}
use Rattle.words.specs.Names.{telling, telling_of}
use Rattle.scanner.specs.Tokens.{mark_of, word_token, number_token, hex_from, hex_token, text_token, sign_token, token_at}
use Rattle.loader.specs.Lines.{lines_from, number_of, from_number}
use Rattle.loader.specs.Loading.{is_plain, numbered, judged, load_lines, load_of}
use Rattle.grammar.specs.Functions.{form_for, any_for}
use Rattle.grammar.specs.Formulas.{count_of, formula_at, climb_at, operand_at, arguments_at, formula_of}
use Rattle.expressions.specs.Types.{depth_of, deepest_of}
use Rattle.statements.specs.Statements.{items_at, print_at, for_at, input_at, begun_at, part_at, read_line}
use Rattle.statements.specs.Parts.{deepest, parts_of, heads, deepest_in}
use Rattle.variables.specs.Strings.{make, let_go, let_all_go, produced}
use Rattle.variables.specs.Variables.{word_of, bytes_of, string_bytes, has_number, has_string, set_number, set_string}
use Rattle.strings.specs.Functions.{argument, starts_with, found, place_of}
use Rattle.operators.specs.Values.{is_before, want_at, value_of, values_of}
use Rattle.machine.specs.Machine.{column_after, write, sought, passed}
use Rattle.turns.specs.Steps.{print_items}
use Rattle.runner.specs.Run.{enter, running, run_of}

witness : List ℕ
witness = bytes "10 GOTO 20"

-- its run ends in 8
witness_fails : ends_well (run_of witness [] (lending 0) 1).ending ≡ false
unfolding witness bytes leading is_digit value_from same_bytes meaning capital_of is_letter is_hex hex_digit signs pairs class_of reserved telling telling_of mark_of word_token number_token hex_from hex_token text_token sign_token token_at lines_from number_of is_plain numbered judged load_lines load_of form_for any_for count_of formula_at climb_at operand_at arguments_at formula_of depth_of deepest_of items_at print_at for_at input_at begun_at part_at read_line deepest parts_of heads deepest_in signed_value num fit places trimmed digit_byte numeral signed_numeral from_number make let_go let_all_go produced word_of bytes_of string_bytes argument starts_with found place_of is_before want_at value_of values_of has_number has_string set_number set_string column_after write print_items sought passed enter running run_of
witness_fails = refl

pub passing_everything_falls : PassingEverythingFalls
passing_everything_falls passes all spares = false≢true (sym witness_fails ∙ spares witness [] (lending 0) 1 (all witness))
