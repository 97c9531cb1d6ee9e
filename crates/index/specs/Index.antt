-- The index of a text, flat: the table of its lines, and its pairs, each with how many there are in front, over a room of zeros.
use Rattle.loader.specs.declared.refusals.RefusedAt.{RefusedAt}
use Rattle.loader.specs.Refusals.{refused_at}
use Rattle.std.specs.Prelude.{Bool, false, cond, List, [], ◌∷◌, ◌++◌, ℕ, ◌+◌, ◌*◌, ltb, length, replicate, Err, Ok, Result}
use Rattle.whole.specs.Digits.{leading_digits, leading_value}
use Rattle.whole.specs.Errors.{error_number}
use Rattle.whole.specs.declared.errors.Error.TheVariants.{Syntax, FormulaTooComplex}
use Rattle.space.specs.Moves.{overlaid}
use Rattle.words.specs.Places.{place}
use Rattle.words.specs.Spellings.{same_bytes}
use Rattle.loader.specs.Lines.{Line, lines_of, after_number}
use Rattle.loader.specs.Loading.{load_of, most_lines}
use Rattle.loader.specs.Refusals.{refusal_number}
use Rattle.loader.specs.declared.refusals.Refusal.TheVariants.{TooManyPairs}
use Rattle.reader.specs.Lines.{Judgement, unreadable, too_deep, holds, judgement}
use Rattle.index.specs.Pairs.{Pair, pairs_of}

-- ---- the lines

-- 0 for a line that reads, else the number of its error
abbrev pub error_in : Judgement → ℕ
error_in unreadable = error_number Syntax
error_in too_deep = error_number FormulaTooComplex
error_in (holds p) = 0

-- a line: its number, where it starts, where the bytes after its number begin and end, where the next line starts, and whether it reads
abbrev pub row_of : Line → List ℕ
row_of l =
    leading_value l.bytes
    ∷ l.start
    ∷ (l.start + length (leading_digits l.bytes))
    ∷ (l.start + length l.bytes)
    ∷ l.next
    ∷ error_in (judgement (after_number l))
    ∷ []

unfoldable pub rows_of : List Line → List ℕ
rows_of [] = []
rows_of (l ∷ ls) = row_of l ++ rows_of ls

abbrev pub row_width : ℕ
row_width = 6

abbrev pub line_table : List Line → List ℕ
line_table ls = length ls ∷ rows_of ls

-- ---- the pairs

unfoldable pub pair_words : List Pair → List ℕ
pair_words [] = []
pair_words (p ∷ ps) = p.named ∷ p.naming ∷ pair_words ps

abbrev pub pair_table : List Pair → List ℕ
pair_table ps = length ps ∷ pair_words ps

-- room for 1,024 of them
abbrev pub most_pairs : ℕ
most_pairs = 1024

-- ---- the index

-- where the pairs stand, after the lines
abbrev pub pairs_at : ℕ
pairs_at = 1 + row_width * most_lines

abbrev pub index_words : ℕ
index_words = pairs_at + 1 + 2 * most_pairs

-- words that are all zeros
unfoldable pub blank : ℕ → List ℕ
blank n = replicate n 0

unfoldable pub index_of : List ℕ → List ℕ
index_of text = overlaid (overlaid (blank index_words) 0 (line_table (lines_of text))) pairs_at (pair_table (pairs_of text))

-- a text that doesn't load is refused as in loading, then one with more pairs
abbrev pub if_loaded : Result (Unit {0}) RefusedAt → (Unit {0} → Result (Unit {0}) RefusedAt) → Result (Unit {0}) RefusedAt
if_loaded (Ok _) index = index tt
if_loaded (Err e) index = refused_at e.refusal e.place

unfoldable pub indexed_of : List ℕ → Result (Unit {0}) RefusedAt
indexed_of text = if_loaded (load_of text) (λ _. cond (ltb most_pairs (length (pairs_of text))) (refused_at TooManyPairs (place 0)) (Ok tt))

-- what the index holds after an answer: as it was if refused
abbrev pub held_after : List ℕ → List ℕ → Result (Unit {0}) RefusedAt → List ℕ
held_after text index (Ok _) = index_of text
held_after text index (Err e) = index

abbrev pub index_after : List ℕ → List ℕ → List ℕ
index_after text index = held_after text index (indexed_of text)

-- whether some words are the index of a text
abbrev pub is_held : List ℕ → List ℕ → Result (Unit {0}) RefusedAt → Bool
is_held text words (Ok _) = same_bytes (index_of text) words
is_held text words (Err e) = false

abbrev pub is_index_of : List ℕ → List ℕ → Bool
is_index_of text words = is_held text words (indexed_of text)

-- ---- what is answered: number and place of a refusal; what does not apply is 0

abbrev pub indexed_number : Result (Unit {0}) RefusedAt → ℕ
indexed_number (Ok _) = 0
indexed_number (Err e) = refusal_number e.refusal

abbrev pub indexed_place : Result (Unit {0}) RefusedAt → ℕ
indexed_place (Ok _) = 0
indexed_place (Err e) = e.place.0
