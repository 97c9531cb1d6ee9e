-- The variable tables as a block of bytes: the number variables' names, and their words, two bytes each, the low byte first; the string
-- variables' names, and their lengths; how many there are of each kind. A block of any bytes means some tables, so asking has an answer
-- for each; zeros mean the empty ones.
use Rattle.std.specs.Prelude.{◌≡◌, List, [], ◌∷◌, ◌++◌, ℕ, zero, suc, ◌+◌, ◌*◌, ◌/◌, ◌%◌, ◌<◌, length, get_or, take, drop}
use Rattle.variables.specs.declared.tables.Tables.{Tables}
use Rattle.variables.specs.Tables.{names_long}
use Rattle.variables.specs.Variables.{most_variables}

-- so many words of two bytes each
unfoldable pub words_from : ℕ → List ℕ → List ℕ
words_from zero bytes = []
words_from (suc n) bytes = (get_or bytes 0 0 + 256 * get_or bytes 1 0) ∷ words_from n (drop 2 bytes)

-- where the words begin, the string variables' names, the lengths and the counts
abbrev pub words_at : ℕ
words_at = names_long

abbrev pub labels_at : ℕ
labels_at = words_at + 2 * most_variables

abbrev pub lengths_at : ℕ
lengths_at = labels_at + names_long

abbrev pub counts_at : ℕ
counts_at = lengths_at + most_variables

-- the tables that a block means
abbrev pub tables_in : List ℕ → Tables
tables_in block = record {
  numbers = record { names = take names_long block; words = words_from most_variables (take (2 * most_variables) (drop words_at block)); count = get_or block counts_at 0 };
  strings = record { names = take names_long (drop labels_at block); lengths = take most_variables (drop lengths_at block); count = get_or block (counts_at + 1) 0 };
}

-- the bytes of words
unfoldable pub word_bytes : List ℕ → List ℕ
word_bytes [] = []
word_bytes (w ∷ ws) = (w % 256) ∷ (w / 256) ∷ word_bytes ws

-- the block that holds some tables
unfoldable pub block_of : Tables → List ℕ
block_of t =
    t.numbers.names
    ++ (word_bytes t.numbers.words
    ++ (t.strings.names
    ++ (t.strings.lengths
    ++ ((t.numbers.count % 256) ∷ (t.strings.count % 256) ∷ []))))

-- tables as long as their types say: 64 names, and as many words or lengths
pub record Long (t : Tables) : Type 0 where
  pub number_names : length t.numbers.names ≡ names_long
  pub words : length t.numbers.words ≡ most_variables
  pub string_names : length t.strings.names ≡ names_long
  pub lengths : length t.strings.lengths ≡ most_variables

-- tables as a run makes them: with counts that a byte holds. Written to a block and read again they are the same (`round_trip`, proved)
pub record Held (t : Tables) : Type 0 where
  pub long : Long t
  pub few_numbers : t.numbers.count < 256
  pub few_strings : t.strings.count < 256
