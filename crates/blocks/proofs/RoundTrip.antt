-- Tables written to a block and read again are the same.
use mathlib.Core.Path.{◌≡◌, sym, ap, ◌∙◌}
use mathlib.Core.List.{List, [], ◌∷◌, ◌++◌}
use Prim.Native.Nat.{ℕ, ◌+◌, ◌*◌, ◌%◌}
use native.Mathlib.Nat.{mod-eq_of_lt}
use native.Mathlib.Omega.{arith}
use lib.ListN.{length, get_or, take, drop}
use lib.Seq.{take_at, drop_at, drop-drop, get_or-drop}
use Rattle.variables.specs.declared.tables.Tables.{Tables}
use Rattle.variables.specs.Tables.{names_long}
use Rattle.variables.specs.Variables.{most_variables}
use Rattle.blocks.specs.Blocks.{words_from, word_bytes, words_at, labels_at, lengths_at, counts_at, tables_in, block_of, Held}
use Rattle.blocks.proofs.Words.{word_bytes-length, words_back}

-- what stands after a part that ends there
behind : (block a rest : List ℕ) (from n : ℕ) → drop from block ≡ a ++ rest → length a ≡ n → drop (from + n) block ≡ rest
behind block a rest from n e k = sym (drop-drop n from block) ∙ ap (drop n) e ∙ drop_at a rest n k

module _ (t : Tables) (held : Held t) where
  abbrev block : List ℕ
  block = block_of t

  abbrev counts : List ℕ
  counts = (t.numbers.count % 256) ∷ (t.strings.count % 256) ∷ []

  words : length (word_bytes t.numbers.words) ≡ 2 * most_variables
  words = omega (arith, word_bytes-length t.numbers.words, held.long.words)

  from_words : drop words_at block ≡ word_bytes t.numbers.words ++ (t.strings.names ++ (t.strings.lengths ++ counts))
  unfolding block_of
  from_words = drop_at t.numbers.names _ names_long held.long.number_names

  from_strings : drop labels_at block ≡ t.strings.names ++ (t.strings.lengths ++ counts)
  from_strings = behind block (word_bytes t.numbers.words) _ words_at (2 * most_variables) from_words words

  from_lengths : drop lengths_at block ≡ t.strings.lengths ++ counts
  from_lengths = behind block t.strings.names _ labels_at names_long from_strings held.long.string_names

  from_counts : drop counts_at block ≡ counts
  from_counts = behind block t.strings.lengths _ lengths_at most_variables from_lengths held.long.lengths

  names_back : take names_long block ≡ t.numbers.names
  unfolding block_of
  names_back = take_at t.numbers.names _ names_long held.long.number_names

  all_words_back : words_from most_variables (take (2 * most_variables) (drop words_at block)) ≡ t.numbers.words
  all_words_back =
      ap (λ l. words_from most_variables (take (2 * most_variables) l)) from_words
      ∙ ap (words_from most_variables) (take_at (word_bytes t.numbers.words) _ (2 * most_variables) words)
      ∙ ap (λ n. words_from n (word_bytes t.numbers.words)) (sym held.long.words)
      ∙ words_back t.numbers.words

  string_names_back : take names_long (drop labels_at block) ≡ t.strings.names
  string_names_back = ap (take names_long) from_strings ∙ take_at t.strings.names _ names_long held.long.string_names

  lengths_back : take most_variables (drop lengths_at block) ≡ t.strings.lengths
  lengths_back = ap (take most_variables) from_lengths ∙ take_at t.strings.lengths _ most_variables held.long.lengths

  number_count_back : get_or block counts_at 0 ≡ t.numbers.count
  number_count_back = sym (get_or-drop counts_at block 0 0) ∙ ap (λ l. get_or l 0 0) from_counts ∙ mod-eq_of_lt held.few_numbers

  string_count_back : get_or block (counts_at + 1) 0 ≡ t.strings.count
  string_count_back = sym (get_or-drop counts_at block 1 0) ∙ ap (λ l. get_or l 1 0) from_counts ∙ mod-eq_of_lt held.few_strings

  pub round_trip : tables_in (block_of t) ≡ t
  round_trip =
      rw (names_back, all_words_back, string_names_back, lengths_back, number_count_back, string_count_back)
