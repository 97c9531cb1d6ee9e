-- Worked examples, computed by the checker: how long recipes can take.
use Rattle.std.specs.Prelude.{◌≡◌, refl, List, [], ◌∷◌, map, ℕ, Option, Some, None, Result, Ok, Err}
use Prim.Native.String.{String}
use Rattle.whole.specs.Bytes.{bytes, leading}
use Rattle.whole.specs.Digits.{is_digit, value_from}
use Rattle.words.specs.Places.{place}
use Rattle.words.specs.Spellings.{same_bytes, meaning}
use Rattle.words.specs.Classes.{capital_of, is_letter, is_hex, hex_digit, signs, pairs, class_of}
use Rattle.words.specs.Vocabulary.{reserved}
use Rattle.words.specs.Names.{telling, telling_of}
use Rattle.scanner.specs.Tokens.{mark_of, word_token, number_token, hex_from, hex_token, text_token, sign_token, token_at}
use Rattle.loader.specs.Lines.{lines_from, number_of}
use Rattle.loader.specs.Loading.{is_plain, numbered, judged, load_lines, load_of}
use Rattle.loader.specs.declared.refusals.Refusal.TheVariants.{NotRising}
use Rattle.loader.specs.declared.refusals.RefusedAt.{RefusedAt}
use Rattle.grammar.specs.Functions.{form_for, any_for}
use Rattle.grammar.specs.Formulas.{count_of, formula_at, climb_at, operand_at, arguments_at, formula_of}
use Rattle.expressions.specs.Types.{depth_of, deepest_of}
use Rattle.statements.specs.Statements.{items_at, print_at, for_at, input_at, begun_at, part_at, read_line}
use Rattle.statements.specs.Parts.{deepest, parts_of, heads, deepest_in}
use Rattle.machine.specs.Order.{placed, stands}
use Rattle.bounding.specs.Bounding.{all_jump_on, bound_of}

pub record Example : Type 0 where
  pub text : String
  pub bound : Result (Option ℕ) RefusedAt

infix 3 ◌has◌
abbrev ◌has◌ : String → Result (Option ℕ) RefusedAt → Example
t has b = record { text = t; bound = b }

pub recipes : List Example
recipes =
    ("" has Ok (Some 0))
    ∷ ("10 A=1\n20 END" has Ok (Some 2))
    -- empty statements count
    ∷ ("10\n20 ::" has Ok (Some 4))
    -- all branches count, and an implied GOTO
    ∷ ("10 IF A THEN B=1:C=1 ELSE 20\n20 :" has Ok (Some 6))
    ∷ ("10 IF A GOTO 20\n20" has Ok (Some 3))
    -- a jump to a missing line, to its own and to a lower one
    ∷ ("10 GOTO 99" has Ok (Some 1))
    ∷ ("10 GOTO 10" has Ok None)
    ∷ ("10 END\n20 IF A THEN 30 ELSE 10" has Ok None)
    -- each word that may lead back, in any branch
    ∷ ("10 END:FOR I=1 TO 2" has Ok None)
    ∷ ("10 END:NEXT" has Ok None)
    ∷ ("10 END:NEXT I" has Ok None)
    ∷ ("10 IF 0 THEN END ELSE GOSUB 20" has Ok None)
    ∷ ("10 IF 0 THEN RETURN" has Ok None)
    ∷ ("10 END:WHILE 0" has Ok None)
    ∷ ("10 END:WEND" has Ok None)
    -- a line that doesn't read counts none, whatever it holds; nor does one that is nested too deep
    ∷ ("10 A=1\n20 NEXT:GOTO 5:?)\n30 END" has Ok (Some 2))
    ∷ ("10 A=1\n20 A=(((((((((1))))))))):GOTO 5" has Ok (Some 1))
    -- words in a text or a remark are none
    ∷ ("10 PRINT \"FOR\":REM GOTO 10" has Ok (Some 2))
    ∷ ("20 A=1\n10 NEXT" has Err (record { refusal = NotRising; place = place 7 }))
    ∷ []

pub recipes_hold : map (λ (e : Example). bound_of (bytes e.text)) recipes ≡ map (λ (e : Example). e.bound) recipes
unfolding recipes bytes leading is_digit value_from same_bytes meaning capital_of is_letter is_hex hex_digit signs pairs class_of reserved telling telling_of mark_of word_token number_token hex_from hex_token text_token sign_token token_at lines_from number_of is_plain numbered judged load_lines load_of form_for any_for count_of formula_at climb_at operand_at arguments_at formula_of depth_of deepest_of items_at print_at for_at input_at begun_at part_at read_line deepest parts_of heads deepest_in placed stands all_jump_on bound_of
recipes_hold = refl
