-- Worked examples, computed by the checker: what recipes are refused for.
use Rattle.checker.specs.declared.checking.Fault.{Fault}
use Rattle.std.specs.Prelude.{◌≡◌, refl, List, [], ◌∷◌, map, Err, Ok, Result}
use Prim.Native.String.{String}
use Rattle.whole.specs.Bytes.{bytes, leading}
use Rattle.whole.specs.Digits.{is_digit, value_from}
use Rattle.whole.specs.declared.errors.Error.TheVariants.{Syntax, FormulaTooComplex, TypeMismatch, UndefinedLine}
use Rattle.words.specs.Places.{place, line_number}
use Rattle.words.specs.Spellings.{same_bytes, meaning}
use Rattle.words.specs.Classes.{capital_of, is_letter, is_hex, hex_digit, signs, pairs, class_of}
use Rattle.words.specs.Vocabulary.{reserved}
use Rattle.words.specs.Names.{telling, telling_of}
use Rattle.scanner.specs.Tokens.{mark_of, word_token, number_token, hex_from, hex_token, text_token, sign_token, token_at}
use Rattle.loader.specs.Lines.{lines_from, number_of}
use Rattle.loader.specs.Loading.{is_plain, numbered, judged, load_lines, load_of}
use Rattle.loader.specs.declared.refusals.Refusal.TheVariants.{NotRising}
use Rattle.grammar.specs.Functions.{form_for, any_for}
use Rattle.grammar.specs.Formulas.{count_of, formula_at, climb_at, operand_at, arguments_at, formula_of}
use Rattle.expressions.specs.Types.{all_meet, sort_of, sorts_of, depth_of, deepest_of}
use Rattle.statements.specs.Statements.{items_at, print_at, for_at, input_at, begun_at, part_at, read_line}
use Rattle.statements.specs.Parts.{deepest, all_some, parts_of, heads, deepest_in, all_typed}
use Rattle.checker.specs.Check.{present, any_missing, first_fault, check_of}
use Rattle.checker.specs.declared.checking.Fault.TheVariants.{Refused, Faulty}

pub record Example : Type 0 where
  pub text : String
  pub verdict : Result (Unit {0}) Fault

infix 3 ◌has◌
abbrev ◌has◌ : String → Result (Unit {0}) Fault → Example
t has v = record { text = t; verdict = v }

pub recipes : List Example
recipes =
    ("" has (Ok tt))
    ∷ ("10 A$=\"LOT \"\n20 FOR I=1 TO 2\n30 PRINT A$;I\n40 NEXT I\n" has (Ok tt))
    ∷ ("10 GOTO 20\n20 GOSUB 10" has (Ok tt))
    -- loading comes first
    ∷ ("10 ?)\n5" has Err (Refused NotRising (place 6)))
    -- each fault, in any branch
    ∷ ("10 END\n20 PRINT )" has Err (Faulty Syntax (line_number 20)))
    ∷ ("10 A=(((((((((1)))))))))" has Err (Faulty FormulaTooComplex (line_number 10)))
    ∷ ("10 IF 0 THEN A$=5" has Err (Faulty TypeMismatch (line_number 10)))
    ∷ ("10 IF 1 THEN END ELSE 30\n20 STOP" has Err (Faulty UndefinedLine (line_number 10)))
    -- in a line 2, then 16, then 13, then 8; the first faulty line decides
    ∷ ("10 GOTO 99:A$=5:A=(((((((((1))))))))):END END" has Err (Faulty Syntax (line_number 10)))
    ∷ ("10 GOTO 99:A$=5:A=(((((((((1)))))))))" has Err (Faulty FormulaTooComplex (line_number 10)))
    ∷ ("10 GOTO 99:A$=5" has Err (Faulty TypeMismatch (line_number 10)))
    ∷ ("10 GOTO 99\n20 A$=5" has Err (Faulty UndefinedLine (line_number 10)))
    ∷ []

pub recipes_hold : map (λ (e : Example). check_of (bytes e.text)) recipes ≡ map (λ (e : Example). e.verdict) recipes
unfolding recipes bytes leading is_digit value_from same_bytes meaning capital_of is_letter is_hex hex_digit signs pairs class_of reserved telling telling_of mark_of word_token number_token hex_from hex_token text_token sign_token token_at lines_from number_of is_plain numbered judged load_lines load_of form_for any_for count_of formula_at climb_at operand_at arguments_at formula_of all_meet sort_of sorts_of depth_of deepest_of items_at print_at for_at input_at begun_at part_at read_line deepest all_some parts_of heads deepest_in all_typed present any_missing first_fault check_of
recipes_hold = refl
