-- Worked examples, computed by the checker: how lines are judged, by the bytes after their number.
use Rattle.std.specs.Prelude.{◌≡◌, refl, Bool, true, false, Result, Ok, Err, List, [], ◌∷◌, map}
use Prim.Native.String.{String}
use Rattle.whole.specs.Bytes.{bytes, leading}
use Rattle.whole.specs.Digits.{is_digit, value_from}
use Rattle.whole.specs.declared.arithmetic.Operator.TheVariants.{Subtract, Multiply}
use Rattle.words.specs.Places.{place}
use Rattle.words.specs.Spellings.{same_bytes, meaning}
use Rattle.words.specs.Classes.{capital_of, is_letter, is_hex, hex_digit, signs, pairs, class_of}
use Rattle.words.specs.Vocabulary.{reserved}
use Rattle.words.specs.Names.{telling, telling_of}
use Rattle.words.specs.declared.symbols.Token.TheVariants.{EndOfLine}
use Rattle.scanner.specs.Tokens.{mark_of, word_token, number_token, hex_from, hex_token, text_token, sign_token, token_at, ◌upto◌}
use Rattle.grammar.specs.Trees.{number, two_sided}
use Rattle.grammar.specs.Functions.{form_for, any_for}
use Rattle.grammar.specs.Formulas.{good, count_of, formula_at, climb_at, operand_at, arguments_at, formula_of}
use Rattle.expressions.specs.Types.{all_meet, sort_of, sorts_of, depth_of, deepest_of}
use Rattle.statements.specs.Statements.{items_at, print_at, for_at, input_at, begun_at, part_at, read_line}
use Rattle.statements.specs.Parts.{deepest, all_some, parts_of, heads, deepest_in, all_typed}
use Rattle.reader.specs.Lines.{judged_of}
use Rattle.reader.specs.declared.lines.LineFault.{LineFault}
use Rattle.reader.specs.declared.lines.LineFault.TheVariants.{Unreadable, TooDeep}

pub record Example : Type 0 where
  pub line : String
  pub judged : Result Bool LineFault

infix 3 ◌is◌
abbrev ◌is◌ : String → Result Bool LineFault → Example
l is j = record { line = l; judged = j }

pub lines : List Example
lines =
    -- an empty statement is allowed
    ("" is Ok true)
    ∷ ("::" is Ok true)
    ∷ (" 'all of it" is Ok true)
    -- statements
    ∷ (" LET A=1:B$=\"x\"" is Ok true)
    ∷ (" PRINT A;B$,,1;" is Ok true)
    ∷ (" ? A 1" is Err Unreadable)
    ∷ (" FOR I=1 TO 10 STEP -1:NEXT I:NEXT" is Ok true)
    ∷ (" LINE INPUT \"lot\";A$" is Ok true)
    ∷ (" GOTO 65529:GOSUB 00010:RETURN" is Ok true)
    ∷ (" GOTO 65530" is Err Unreadable)
    ∷ (" END:STOP:REM (((" is Ok true)
    ∷ (" 100" is Err Unreadable)
    -- IF and its parts; ELSE goes with the nearest IF that has none
    ∷ (" IF A THEN 100 ELSE 200" is Ok true)
    ∷ (" IF A GOTO 100:END ELSE STOP" is Ok true)
    ∷ (" IF A GOTO END" is Err Unreadable)
    ∷ (" IF A THEN IF B THEN C=1 ELSE C=2 ELSE C=3" is Ok true)
    ∷ (" IF A THEN C=1 ELSE C=2 ELSE C=3" is Err Unreadable)
    ∷ (" IF A THEN PRINT \"ELSE\"" is Ok true)
    ∷ (" PRINT 1 ELSE PRINT 2" is Err Unreadable)
    -- one minus sign; NOT where an operand of AND or a looser operator may stand
    ∷ (" A=7 MOD -2" is Ok true)
    ∷ (" A=--1" is Err Unreadable)
    ∷ (" A=NOT NOT B AND NOT C" is Ok true)
    ∷ (" A=B=NOT C" is Err Unreadable)
    -- functions by the number of their arguments
    ∷ (" A=INSTR(2,A$,B$)+INSTR(A$,B$)" is Ok true)
    ∷ (" A=LEN()" is Err Unreadable)
    ∷ (" A$=MID$(A$,1,2,3)" is Err Unreadable)
    -- types, in any branch
    ∷ (" A$=5" is Ok false)
    ∷ (" IF 0 THEN A$=5" is Ok false)
    ∷ (" IF 0 THEN A=1 ELSE A=\"x\"" is Ok false)
    ∷ (" IF A$ THEN 10" is Ok false)
    ∷ (" A=A$+1" is Ok false)
    ∷ (" A=A$<B$" is Ok true)
    ∷ (" NEXT A$" is Ok false)
    ∷ (" A=INSTR(A$,B$,1)" is Ok false)
    -- eight pairs of parentheses, a function's own included, and nine; what does not read comes first
    ∷ (" A=((((((((1))))))))" is Ok true)
    ∷ (" A=(((((((ABS(1))))))))" is Ok true)
    ∷ (" A=(((((((((1)))))))))" is Err TooDeep)
    ∷ (" A=(((((((((1))))))))):END END" is Err Unreadable)
    ∷ []

pub lines_hold : map (λ (e : Example). judged_of (bytes e.line)) lines ≡ map (λ (e : Example). e.judged) lines
unfolding lines bytes leading is_digit value_from same_bytes meaning capital_of is_letter is_hex hex_digit signs pairs class_of reserved telling telling_of mark_of word_token number_token hex_from hex_token text_token sign_token token_at form_for any_for count_of formula_at climb_at operand_at arguments_at formula_of all_meet sort_of sorts_of depth_of deepest_of items_at print_at for_at input_at begun_at part_at read_line deepest all_some parts_of heads deepest_in all_typed
lines_hold = refl

-- ---- operators group to the left, and `*` is tighter than `-`

pub grouped : formula_of (bytes "9-5-2*3") (token_at (bytes "9-5-2*3") (place 0))
    ≡ good (two_sided Subtract (two_sided Subtract (number 9) (number 5)) (two_sided Multiply (number 2) (number 3))) (EndOfLine upto 7)
unfolding bytes leading is_digit value_from same_bytes meaning capital_of is_letter is_hex hex_digit signs pairs class_of reserved telling telling_of mark_of word_token number_token hex_from hex_token text_token sign_token token_at formula_at climb_at operand_at arguments_at formula_of
grouped = refl
