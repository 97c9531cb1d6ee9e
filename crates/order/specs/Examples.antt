-- Worked examples, computed by the checker: the statements of a text in text order, each by where its line begins in the text, its
-- place after the line's number, and how many statements of its part are left after it; and the NEXT of a FOR.
use Rattle.std.specs.Prelude.{◌≡◌, refl, List, [], ◌∷◌, map, ℕ, suc}
use Prim.Native.String.{String}
use Rattle.whole.specs.Bytes.{bytes, leading}
use Rattle.whole.specs.Digits.{is_digit, value_from}
use Rattle.words.specs.Spellings.{same_bytes, meaning}
use Rattle.words.specs.Classes.{capital_of, is_letter, is_hex, hex_digit, signs, pairs, class_of}
use Rattle.words.specs.Vocabulary.{reserved}
use Rattle.words.specs.Names.{telling, telling_of}
use Rattle.scanner.specs.Tokens.{mark_of, word_token, number_token, hex_from, hex_token, text_token, sign_token, token_at}
use Rattle.loader.specs.Lines.{Line, lines_from, lines_of}
use Rattle.grammar.specs.Functions.{form_for, any_for}
use Rattle.grammar.specs.Formulas.{count_of, formula_at, climb_at, operand_at, arguments_at, formula_of}
use Rattle.grammar.specs.Trees.{Part, last, more}
use Rattle.expressions.specs.Types.{depth_of, deepest_of}
use Rattle.statements.specs.Statements.{items_at, print_at, for_at, input_at, begun_at, part_at, read_line}
use Rattle.statements.specs.Parts.{place_of, deepest, parts_of, heads, deepest_in}
use Rattle.machine.specs.Order.{beyond, Stand, placed, stands, later, Partner, none, some, partner, next_for}

pub record Seen : Type 0 where
  pub line : ℕ
  pub at : ℕ
  pub left : ℕ

infix 3 ◌at◌left◌
abbrev ◌at◌left◌ : ℕ → ℕ → ℕ → Seen
l at p left n = record { line = l; at = p; left = n }

abbrev line_start : List Line → ℕ
line_start [] = 0
line_start (l ∷ ls) = l.start

abbrev left_in : Part → ℕ
left_in (last p x) = 0
left_in (more p x rest) = suc (left_in rest)

abbrev seen : Stand → Seen
seen s = line_start s.lines at place_of s.part left left_in s.part

pub record Example : Type 0 where
  pub text : String
  pub has : List Seen

infix 2 ◌has◌
abbrev ◌has◌ : String → List Seen → Example
t has l = record { text = t; has = l }

pub texts : List Example
texts =
    ("" has [])
    -- an empty statement is one
    ∷ ("10" has (0 at 0 left 0) ∷ [])
    ∷ ("10:" has (0 at 0 left 1) ∷ (0 at 1 left 0) ∷ [])
    ∷ ("10 A=1:B=2\n20 END" has (0 at 0 left 1) ∷ (0 at 5 left 0) ∷ (11 at 0 left 0) ∷ [])
    -- an IF, its THEN part, its ELSE part; nothing is left after a part's last statement
    ∷ ("10 IF A THEN B=1:C=2 ELSE D=3:E=4" has (0 at 0 left 0) ∷ (0 at 10 left 1) ∷ (0 at 15 left 0) ∷ (0 at 23 left 1) ∷ (0 at 28 left 0) ∷ [])
    -- a line number after THEN is a statement
    ∷ ("10 IF A THEN 50" has (0 at 0 left 0) ∷ (0 at 10 left 0) ∷ [])
    -- nested IFs: the inner one takes the first ELSE
    ∷ ("10 IF A THEN IF B THEN C=1 ELSE C=2 ELSE C=3" has (0 at 0 left 0) ∷ (0 at 10 left 0) ∷ (0 at 20 left 0) ∷ (0 at 29 left 0) ∷ (0 at 38 left 0) ∷ [])
    -- lines that don't read or nest too deep have none
    ∷ ("10 END\n20 A=1:?)\n30 B=(((((((((1)))))))))\n40 STOP" has (0 at 0 left 0) ∷ (42 at 0 left 0) ∷ [])
    ∷ []

pub texts_hold : map (λ (e : Example). map seen (stands (lines_of (bytes e.text)))) texts ≡ map (λ (e : Example). e.has) texts
unfolding texts bytes leading is_digit value_from same_bytes meaning capital_of is_letter is_hex hex_digit signs pairs class_of reserved telling telling_of mark_of word_token number_token hex_from hex_token text_token sign_token token_at lines_from form_for any_for count_of formula_at climb_at operand_at arguments_at formula_of depth_of deepest_of items_at print_at for_at input_at begun_at part_at read_line deepest parts_of heads deepest_in placed stands
texts_hold = refl

-- ---- the NEXT of a FOR that stands at a place of the first line

pub data Found : Type 0 where
  missing : Found
  found : Seen → Found

abbrev found_as : Partner → Found
found_as none = missing
found_as (some s) = found (seen s)

pub record Pair : Type 0 where
  pub text : String
  pub place : ℕ
  pub next : Found

infix 2 ◌from◌to◌
abbrev ◌from◌to◌ : String → ℕ → Found → Pair
t from p to f = record { text = t; place = p; next = f }

pub pairings : List Pair
pairings =
    ("10 FOR I=1 TO 0:PRINT I:NEXT:END" from 0 to found (0 at 22 left 1))
    -- an inner FOR is paired first, whatever its NEXT names
    ∷ ("10 FOR I=1 TO 0:FOR J=1 TO 9:NEXT K:NEXT:END" from 0 to found (0 at 34 left 1))
    -- its own inner one
    ∷ ("10 FOR I=1 TO 0:FOR J=1 TO 9:NEXT K:NEXT:END" from 14 to found (0 at 27 left 2))
    -- branches count, and a line that does not read is passed over
    ∷ ("10 FOR I=1 TO 0\n20 NEXT)\n30 IF A THEN NEXT I ELSE NEXT" from 0 to found (25 at 10 left 0))
    ∷ ("10 IF A THEN FOR I=1 TO 0 ELSE NEXT" from 10 to found (0 at 28 left 0))
    ∷ ("10 FOR I=1 TO 0:FOR J=1 TO 9:NEXT" from 0 to missing)
    ∷ []

pub pairings_hold : map (λ (e : Pair). found_as (next_for e.place (lines_of (bytes e.text)))) pairings ≡ map (λ (e : Pair). e.next) pairings
unfolding pairings bytes leading is_digit value_from same_bytes meaning capital_of is_letter is_hex hex_digit signs pairs class_of reserved telling telling_of mark_of word_token number_token hex_from hex_token text_token sign_token token_at lines_from form_for any_for count_of formula_at climb_at operand_at arguments_at formula_of depth_of deepest_of items_at print_at for_at input_at begun_at part_at read_line deepest parts_of heads deepest_in placed stands beyond later partner
pairings_hold = refl
