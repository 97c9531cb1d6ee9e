-- Worked examples, computed by the checker: which lines name a line and where it starts, by reading the whole text and by asking its index.
use Rattle.words.specs.declared.places.Place.{Place}
use Rattle.loader.specs.Refusals.{refused_at}
use Rattle.std.specs.Prelude.{◌≡◌, refl, true, false, List, [], ◌∷◌, ◌++◌, map, ℕ, zero, suc, ◌+◌, ◌/◌, ◌%◌, set, None, Ok, Option, Some}
use Rattle.whole.specs.Bytes.{bytes, leading}
use Rattle.whole.specs.Digits.{is_digit, value_from}
use Rattle.words.specs.Places.{place, line_number}
use Rattle.words.specs.Spellings.{same_bytes, meaning}
use Rattle.words.specs.Classes.{capital_of, is_letter, is_hex, hex_digit, signs, pairs, class_of}
use Rattle.words.specs.Vocabulary.{reserved}
use Rattle.words.specs.Names.{telling_of}
use Rattle.space.specs.Moves.{overlaid}
use Rattle.scanner.specs.Tokens.{mark_of, word_token, number_token, hex_from, hex_token, text_token, sign_token, token_at}
use Rattle.loader.specs.Lines.{lines_from, number_of}
use Rattle.loader.specs.Loading.{is_plain, numbered, judged, load_lines, load_of}
use Rattle.loader.specs.declared.refusals.Refusal.TheVariants.{NotRising, TooManyPairs}
use Rattle.grammar.specs.Functions.{form_for, any_for}
use Rattle.grammar.specs.Formulas.{count_of, formula_at, climb_at, operand_at, arguments_at, formula_of}
use Rattle.expressions.specs.Types.{depth_of, deepest_of}
use Rattle.statements.specs.Statements.{items_at, print_at, for_at, input_at, begun_at, part_at, read_line}
use Rattle.statements.specs.Parts.{deepest, parts_of, heads, deepest_in}
use Rattle.index.specs.Callers.{any_names, callers_among, callers_of}
use Rattle.index.specs.Pairs.{is_in, named_by, pairs_with, pairs_among}
use Rattle.index.specs.Index.{rows_of, pair_words, blank, index_of, indexed_of, is_index_of}
use Rattle.index.specs.Asking.{start_among, line_in, naming_among, callers_in}

-- twice in a line; both branches; a subroutine; no reading line; a remark and a text
pub recipe : List ℕ
recipe =
    bytes "10 GOTO 40:GOTO 40\n20 IF A THEN 40 ELSE 10\n30 GOSUB 40\n40 IF A GOTO 40\n50 GOTO 99\n60 GOTO 40:X=\n70 REM GOTO 40\n80 PRINT \"GOTO 40\"\n"

pub record Example : Type 0 where
  pub line : ℕ
  pub start : Option Place
  pub callers : List ℕ

pub lines : List Example
lines =
    record { line = 40; start = Some (place 55); callers = 10 ∷ 20 ∷ 30 ∷ 40 ∷ [] }
    ∷ record { line = 10; start = Some (place 0); callers = 20 ∷ [] }
    ∷ record { line = 50; start = Some (place 71); callers = [] }
    -- a line that is missing can be named
    ∷ record { line = 99; start = None; callers = 50 ∷ [] }
    ∷ record { line = 45; start = None; callers = [] }
    ∷ []

pub read_callers_hold : map (λ (e : Example). callers_of recipe (line_number e.line)) lines ≡ map (λ (e : Example). e.callers) lines
unfolding recipe lines bytes leading is_digit value_from same_bytes meaning capital_of is_letter is_hex hex_digit signs pairs class_of reserved telling_of mark_of word_token number_token hex_from hex_token text_token sign_token token_at lines_from number_of form_for any_for count_of formula_at climb_at operand_at arguments_at formula_of depth_of deepest_of items_at print_at for_at input_at begun_at part_at read_line deepest parts_of heads deepest_in any_names callers_among
read_callers_hold = refl

pub asked_callers_hold : map (λ (e : Example). callers_in (index_of recipe) (line_number e.line)) lines ≡ map (λ (e : Example). e.callers) lines
unfolding recipe lines bytes leading is_digit value_from same_bytes meaning capital_of is_letter is_hex hex_digit signs pairs class_of reserved telling_of mark_of word_token number_token hex_from hex_token text_token sign_token token_at lines_from number_of form_for any_for count_of formula_at climb_at operand_at arguments_at formula_of depth_of deepest_of items_at print_at for_at input_at begun_at part_at read_line deepest parts_of heads deepest_in overlaid is_in named_by pairs_with pairs_among rows_of pair_words blank index_of naming_among
asked_callers_hold = refl

pub asked_lines_hold : map (λ (e : Example). line_in (index_of recipe) (line_number e.line)) lines ≡ map (λ (e : Example). e.start) lines
unfolding recipe lines bytes leading is_digit value_from same_bytes meaning capital_of is_letter is_hex hex_digit signs pairs class_of reserved telling_of mark_of word_token number_token hex_from hex_token text_token sign_token token_at lines_from number_of form_for any_for count_of formula_at climb_at operand_at arguments_at formula_of depth_of deepest_of items_at print_at for_at input_at begun_at part_at read_line deepest parts_of heads deepest_in overlaid is_in named_by pairs_with pairs_among rows_of pair_words blank index_of start_among
asked_lines_hold = refl

-- ---- whose index it is

-- one word of a pair is another; the text was edited; no words at all
pub whose : map (λ (words : List ℕ). is_index_of recipe words) (index_of recipe ∷ set (index_of recipe) 3074 41 ∷ index_of (bytes "10 GOTO 40\n") ∷ [] ∷ [])
    ≡ true ∷ false ∷ false ∷ false ∷ []
unfolding recipe bytes leading is_digit value_from same_bytes meaning capital_of is_letter is_hex hex_digit signs pairs class_of reserved telling_of mark_of word_token number_token hex_from hex_token text_token sign_token token_at lines_from number_of is_plain numbered judged load_lines load_of form_for any_for count_of formula_at climb_at operand_at arguments_at formula_of depth_of deepest_of items_at print_at for_at input_at begun_at part_at read_line deepest parts_of heads deepest_in overlaid is_in named_by pairs_with pairs_among rows_of pair_words blank index_of indexed_of
whose = refl

-- ---- what is refused

-- n lines of three digits from k on, each naming eight others
pub naming_lines : ℕ → ℕ → List ℕ
naming_lines zero k = []
naming_lines (suc n) k =
    (48 + k / 100) ∷ (48 + k / 10 % 10) ∷ (48 + k % 10) ∷ (bytes " GOTO 1:GOTO 2:GOTO 3:GOTO 4:GOTO 5:GOTO 6:GOTO 7:GOTO 8\n" ++ naming_lines n (suc k))

pub refused : map (λ (text : List ℕ). indexed_of text) (bytes "20\n10\n" ∷ naming_lines 128 100 ∷ (naming_lines 128 100 ++ bytes "300 GOTO 1\n") ∷ [])
    ≡ refused_at NotRising (place 3) ∷ (Ok tt) ∷ refused_at TooManyPairs (place 0) ∷ []
unfolding naming_lines bytes leading is_digit value_from same_bytes meaning capital_of is_letter is_hex hex_digit signs pairs class_of reserved telling_of mark_of word_token number_token hex_from hex_token text_token sign_token token_at lines_from number_of is_plain numbered judged load_lines load_of form_for any_for count_of formula_at climb_at operand_at arguments_at formula_of depth_of deepest_of items_at print_at for_at input_at begun_at part_at read_line deepest parts_of heads deepest_in is_in named_by pairs_with pairs_among indexed_of
refused = refl
