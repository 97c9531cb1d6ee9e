-- Asking the index of a text answers what reading the whole text would; and its front is the table of the text's lines.
use Rattle.std.specs.Prelude.{Err, Ok, Result}
use Rattle.loader.specs.declared.refusals.RefusedAt.{RefusedAt}
use mathlib.Core.Path.{◌≡◌, refl, sym, ap, ap₂, ◌∙◌}
use mathlib.Core.List.{List, [], ◌∷◌, ◌++◌, append_assoc}
use Prim.Native.Nat.{ℕ, zero, suc, ◌+◌, ◌*◌, ◌-◌, ◌≤◌, ◌<◌, min}
use native.Mathlib.Omega.{arith}
use borrow.Author.Tests.{ltb-false}
use lib.Dec.{eqb, ltb}
use lib.ListN.{length, get_or, take, drop, take-append-drop, get_or-append}
use lib.Seq.{take-append-add, get_or-drop, drop-drop, drop-cons}
use Rattle.whole.specs.Digits.{leading_value}
use Rattle.whole.proofs.Never.{never}
use Rattle.words.specs.declared.places.LineNumber.{LineNumber}
use Rattle.words.proofs.Choices.{by_test}
use Rattle.space.specs.Moves.{overlaid}
use Rattle.space.proofs.Overlaid.{overlaid-length, overlaid_back}
use Rattle.loader.specs.Lines.{Line, lines_of, after_number, number_of, has, first_of, from_number, find_line}
use Rattle.loader.specs.Loading.{load_of, most_lines}
use Rattle.loader.proofs.Rising.{Sound, Rising, recipe, rising_suffix}
use Rattle.reader.specs.Lines.{judgement}
use Rattle.rows.specs.bridge.Rows.{cell, Tells, Tabled}
use Rattle.rows.proofs.Ordering.{no_line}
use Rattle.index.specs.Callers.{callers_of}
use Rattle.index.specs.Pairs.{pairs_of}
use Rattle.index.specs.Index.{row_of, rows_of, line_table, pair_words, pair_table, most_pairs, pairs_at, index_words, blank, index_of, indexed_of}
use Rattle.index.specs.Asking.{start_among, line_in, naming_among, callers_in}
use Rattle.index.specs.Law.{start_of, AnswersAsTheText}
use Rattle.index.proofs.Laying.{blank_long}
use Rattle.index.proofs.Noting.{pair_words_long}
use Rattle.index.proofs.Tabling.{verdict_error}
use Rattle.index.proofs.Once.{callers_told}
use Rattle.index.proofs.Calling.{callers_within}

-- ---- a text that has an index

-- it loads, and has few pairs
pub record Indexable (text : List ℕ) : Type 0 where
  pub loads : load_of text ≡ Ok tt
  pub few : length (pairs_of text) ≤ most_pairs

indexable_by : (text : List ℕ) (l : Result (Unit {0}) RefusedAt) → load_of text ≡ l → indexed_of text ≡ Ok tt → Indexable text
unfolding indexed_of
indexable_by text (Err x) e h = let z = rw e at h in never (cc)
indexable_by text (Ok _) e h =
    by_test (ltb most_pairs (length (pairs_of text)))
    (λ t. let z = rw (e, t) at h in never (cc))
    (λ t. record { loads = e; few = ltb-false most_pairs (length (pairs_of text)) t })

pub indexable : (text : List ℕ) → indexed_of text ≡ Ok tt → Indexable text
indexable text h = indexable_by text (load_of text) refl h

-- ---- the two parts of an index

rows_long : (ls : List Line) → length (rows_of ls) ≡ 6 * length ls
unfolding rows_of
rows_long [] = refl
rows_long (l ∷ ls) = omega (arith, rows_long ls)

module _ (text : List ℕ) (i : Indexable text) where
  abbrev table : List ℕ
  table = line_table (lines_of text)

  abbrev zeros : List ℕ
  zeros = drop (0 + length table) (blank index_words)

  abbrev pairs : List ℕ
  pairs = pair_table (pairs_of text)

  lines_few : length (lines_of text) ≤ 512
  lines_few = (recipe text i.loads).few

  table_short : length table ≤ pairs_at
  table_short = omega (arith, lines_few, rows_long (lines_of text))

  abbrev base : List ℕ
  base = overlaid (blank index_words) 0 table

  base_long : length base ≡ index_words
  base_long = overlaid-length (blank index_words) 0 table (omega (arith, table_short, blank_long index_words)) ∙ blank_long index_words

  -- the table is in front,
  front : take pairs_at base ≡ table ++ take (pairs_at - length table) zeros
  unfolding overlaid
  front =
      let n : pairs_at ≡ length table + (pairs_at - length table) = omega (arith, table_short) in
      ap (λ k. take k (table ++ zeros)) n ∙ take-append-add table zeros (pairs_at - length table)

  abbrev behind : List ℕ
  behind = take (pairs_at - length table) zeros ++ (pairs ++ drop (pairs_at + length pairs) base)

  index_front : index_of text ≡ table ++ behind
  unfolding index_of overlaid
  index_front =
      ap (λ l. l ++ (pairs ++ drop (pairs_at + length pairs) base)) front
      ∙ append_assoc table (take (pairs_at - length table) zeros) (pairs ++ drop (pairs_at + length pairs) base)

  -- and the pairs are behind it
  index_back : drop pairs_at (index_of text) ≡ pairs ++ drop (pairs_at + length pairs) base
  unfolding index_of
  index_back = overlaid_back base pairs_at pairs (omega (arith, base_long))

  pub index_long : length (index_of text) ≡ index_words
  unfolding index_of
  index_long =
      overlaid-length base pairs_at pairs (omega (arith, base_long, i.few, pair_words_long (pairs_of text))) ∙ base_long

  pub index_table : (take pairs_at (index_of text)) ≡ table ++ take (pairs_at - length table) behind
  index_table =
      let n : pairs_at ≡ length table + (pairs_at - length table) = omega (arith, table_short) in
      ap (take pairs_at) index_front ∙ ap (λ k. take k (table ++ behind)) n ∙ take-append-add table behind (pairs_at - length table)

-- ---- where a line starts

start_told : (n floor : ℕ) (ls : List Line) (rest : List ℕ) → Rising floor ls → start_among n (length ls) (rows_of ls ++ rest) ≡ start_of (first_of (from_number n ls))
unfolding start_among rows_of from_number
start_told n floor [] rest r = refl
start_told n floor (l ∷ ls) rest r =
    let h : has n (number_of l.bytes) ≡ eqb (leading_value l.bytes) n = ap (has n) r.0.is in
    by_test (eqb (leading_value l.bytes) n)
    (λ e. rw (h, e, r.0.is))
    (λ e. rw (h, e) (start_told n (leading_value l.bytes + 1) ls rest r.2))

module _ (text : List ℕ) (i : Indexable text) (n : LineNumber) where
  line_told : line_in (index_of text) n ≡ start_of (find_line text n)
  line_told =
      let ls = lines_of text in
      let rest = behind text i in
      let k : min (length ls) 512 ≡ length ls = omega (arith, lines_few text i) in
      ap (λ l. line_in l n) (index_front text i)
      ∙ ap (λ m. start_among n.0 m (rows_of ls ++ rest)) k
      ∙ start_told n.0 0 ls rest (recipe text i.loads).rising

  callers_here : callers_in (index_of text) n ≡ callers_of text n
  callers_here =
      let ps = pairs_of text in
      let rest = drop (pairs_at + length (pair_table ps)) (base text i) in
      let count : get_or (index_of text) pairs_at 0 ≡ length ps = sym (get_or-drop pairs_at (index_of text) 0 0) ∙ ap (λ l. get_or l 0 0) (index_back text i) in
      let words : drop (pairs_at + 1) (index_of text) ≡ pair_words ps ++ rest = sym (drop-drop 1 pairs_at (index_of text)) ∙ ap (drop 1) (index_back text i) in
      let k : min (get_or (index_of text) pairs_at 0) most_pairs ≡ length ps = omega (arith, i.few, count) in
      ap (take most_lines) (ap₂ (naming_among n.0) k words ∙ callers_told n.0 (lines_of text) rest)
      ∙ callers_within n.0 (lines_of text) (lines_few text i)

pub answers_as_the_text : AnswersAsTheText
answers_as_the_text text n e = let i = indexable text e in (line_told text i n, callers_here text i n)

-- ---- the table that a run goes by

cell_row : (ls : List Line) (rest : List ℕ) (i k : ℕ) → i < length ls → k < 6 → get_or (rows_of ls ++ rest) (6 * i + k) 0 ≡ get_or (row_of (get_or ls i no_line)) k 0
unfolding rows_of
cell_row [] rest i k h b = absurd (omega arith)
cell_row (l ∷ ls) rest zero k h b =
    let e : 6 * 0 + k ≡ k = omega arith in
    ap (λ m. get_or (row_of l ++ (rows_of ls ++ rest)) m 0) e ∙ get_or-append (row_of l) (rows_of ls ++ rest) 0 k b
cell_row (l ∷ ls) rest (suc i) k h b =
    let e : 6 * suc i + k ≡ suc (suc (suc (suc (suc (suc (6 * i + k)))))) = omega arith in
    ap (λ m. get_or (row_of l ++ (rows_of ls ++ rest)) m 0) e ∙ cell_row ls rest i k (omega arith) b

-- a row with a line's words tells it
tells_row : (rows : List ℕ) (i : ℕ) (l : Line) (ls : List Line) → ((k : ℕ) → k < 6 → cell rows i k ≡ get_or (row_of l) k 0) → Sound l.bytes → Tells rows i (l ∷ ls)
tells_row rows i l ls h s =
    record {
      span = rw (s.is, h 0 (omega arith), h 1 (omega arith), h 2 (omega arith), h 3 (omega arith), h 4 (omega arith));
      verdict = h 5 (omega arith) ∙ sym (verdict_error (judgement (after_number l)));
    }

module _ (text : List ℕ) (i : Indexable text) where
  abbrev rest_of : List ℕ
  rest_of = take (pairs_at - length (table text i)) (behind text i)

  tells_all : (j : ℕ) → j < length (lines_of text) → Tells (table text i ++ rest_of) j (drop j (lines_of text))
  tells_all j h =
      let ls = lines_of text in
      let here = drop-cons ls j no_line h in
      let r : Rising 0 (get_or ls j no_line ∷ drop (suc j) ls) = rw here at (rising_suffix 0 (take j ls, take-append-drop j ls) (recipe text i.loads).rising) in
      rw here
      (tells_row (table text i ++ rest_of) j (get_or ls j no_line) (drop (suc j) ls)
      (λ k b. let e : 1 + (6 * j + k) ≡ suc (6 * j + k) = omega arith in
      ap (λ m. get_or (table text i ++ rest_of) m 0) e ∙ cell_row ls rest_of j k h b) r.0)

  pub index_tabled : Tabled text (take pairs_at (index_of text))
  index_tabled = rw (index_table text i) (record { loads = i.loads; counts = refl; tells = tells_all })
