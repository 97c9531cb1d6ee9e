-- What indexing answers, by what loading answers and by how many pairs there are.
use Rattle.std.specs.Prelude.{Ok}
use Rattle.loader.specs.Refusals.{refused_at}
use mathlib.Core.Path.{◌≡◌, sym, ap, ap₂, ◌∙◌}
use mathlib.Core.Bool.{false}
use mathlib.Core.List.{List}
use Prim.Native.Nat.{ℕ, ◌+◌, ◌*◌, ◌≤◌, ◌<◌, zero-le}
use native.Mathlib.Omega.{arith}
use borrow.Author.Tests.{lt-ltb, le-ltb}
use lib.ListN.{length, take}
use Rattle.words.specs.Places.{place}
use Rattle.words.specs.declared.places.Place.{Place}
use Rattle.words.specs.Spellings.{same_bytes}
use Rattle.space.proofs.Overlaid.{overlaid_front}
use Rattle.loader.specs.Lines.{lines_of}
use Rattle.loader.specs.Loading.{load_of}
use Rattle.loader.specs.declared.refusals.Refusal.{Refusal}
use Rattle.loader.specs.declared.refusals.Refusal.TheVariants.{TooManyPairs}
use Rattle.index.specs.Pairs.{Pair, pairs_of}
use Rattle.index.specs.Index.{line_table, pair_words, most_pairs, blank, index_of, indexed_of, index_after, held_after, is_held, is_index_of}
use Rattle.index.specs.bridge.Noting.{pair_room, Held}
use Rattle.index.specs.bridge.Laying.{laid_out}
use Rattle.index.proofs.Noting.{pair_words_long}

module _ (text : List ℕ) where
  refused_so : {r : Refusal} {p : Place} → load_of text ≡ refused_at r p → indexed_of text ≡ refused_at r p
  unfolding indexed_of
  refused_so e = rw e

  full_so : load_of text ≡ Ok tt → most_pairs < length (pairs_of text) → indexed_of text ≡ refused_at TooManyPairs (place 0)
  unfolding indexed_of
  full_so e h = rw (e, lt-ltb most_pairs (length (pairs_of text)) h)

  pub fine_so : load_of text ≡ Ok tt → length (pairs_of text) ≤ most_pairs → indexed_of text ≡ Ok tt
  unfolding indexed_of
  fine_so e h = rw (e, le-ltb most_pairs (length (pairs_of text)) h)

  -- what is refused leaves the index as it was
  left : {r : Refusal} {p : Place} (index : List ℕ) → indexed_of text ≡ refused_at r p → (refused_at r p ≡ indexed_of text) × (index ≡ index_after text index)
  left index e = (sym e, sym (ap (held_after text index) e))

  pub load_refused : {r : Refusal} {p : Place} (index : List ℕ) → load_of text ≡ refused_at r p → (refused_at r p ≡ indexed_of text) × (index ≡ index_after text index)
  load_refused index e = left index (refused_so e)

  pub pairs_refused : (index : List ℕ) → load_of text ≡ Ok tt → most_pairs < length (pairs_of text)
      → (refused_at TooManyPairs (place 0) ≡ indexed_of text) × (index ≡ index_after text index)
  pairs_refused index e h = left index (full_so e h)

-- the pairs at the front of their room
pub pairs_front : {pairs : List ℕ} {count : ℕ} {ps : List Pair} → Held pairs count ps → take (2 * count) pairs ≡ pair_words ps
pairs_front {pairs} {count} {ps} h =
    let n : 2 * count ≡ 0 + length (pair_words ps) = omega (arith, h.counts, pair_words_long ps) in
    ap₂ take n h.words ∙ overlaid_front (blank pair_room) 0 (pair_words ps) zero-le

-- what is laid out is the index
pub laid_index : (text : List ℕ) {pairs : List ℕ} {count : ℕ} {table : List ℕ} → Held pairs count (pairs_of text) → table ≡ line_table (lines_of text)
    → laid_out table count (take (2 * count) pairs) ≡ index_of text
unfolding index_of
laid_index text {pairs = pairs} {count = count} h t =
    ap (λ l. laid_out l count (take (2 * count) pairs)) t ∙ ap₂ (laid_out (line_table (lines_of text))) h.counts (pairs_front h)

pub index_made : (text : List ℕ) {after pairs : List ℕ} {count : ℕ} (index : List ℕ) {table : List ℕ} → load_of text ≡ Ok tt → Held pairs count (pairs_of text)
    → table ≡ line_table (lines_of text) → after ≡ laid_out table count (take (2 * count) pairs) → ((Ok tt) ≡ indexed_of text) × (after ≡ index_after text index)
index_made text index e h t a =
    let f = fine_so text e h.few in (sym f, a ∙ laid_index text h t ∙ sym (ap (held_after text index) f))

-- ---- whether words are the index

module _ (text words : List ℕ) where
  pub load_none : {r : Refusal} {p : Place} → load_of text ≡ refused_at r p → false ≡ is_index_of text words
  load_none e = sym (ap (is_held text words) (refused_so text e))

  pub pairs_none : load_of text ≡ Ok tt → most_pairs < length (pairs_of text) → false ≡ is_index_of text words
  pairs_none e h = sym (ap (is_held text words) (full_so text e h))

  pub laid_same : {pairs : List ℕ} {count : ℕ} {table : List ℕ} → load_of text ≡ Ok tt → Held pairs count (pairs_of text) → table ≡ line_table (lines_of text)
      → same_bytes (laid_out table count (take (2 * count) pairs)) words ≡ is_index_of text words
  laid_same e h t = ap (λ l. same_bytes l words) (laid_index text h t) ∙ sym (ap (is_held text words) (fine_so text e h.few))
