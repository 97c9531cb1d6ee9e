-- Worked examples, computed by the checker.
use Rattle.std.specs.Prelude.{◌≡◌, refl, [], ◌∷◌, replicate}
use Rattle.variables.specs.Tables.{empty_tables}
use Rattle.blocks.specs.Blocks.{words_from, word_bytes, tables_in, block_of}

-- a block of zeros holds no variables
none : tables_in (replicate 5314 0) ≡ empty_tables
unfolding words_from
none = refl

none_written : block_of empty_tables ≡ replicate 5314 0
unfolding block_of word_bytes
none_written = refl

-- a word has its low byte first
words_read : words_from 3 (1 ∷ 0 ∷ 0 ∷ 1 ∷ 255 ∷ 255 ∷ []) ≡ 1 ∷ 256 ∷ 65535 ∷ []
unfolding words_from
words_read = refl

words_written : word_bytes (1 ∷ 256 ∷ 65535 ∷ []) ≡ 1 ∷ 0 ∷ 0 ∷ 1 ∷ 255 ∷ 255 ∷ []
unfolding word_bytes
words_written = refl
