-- An index laid out: the table over zeros, then the number of pairs, then the pairs; and the word that it has at a place.
use mathlib.Core.Path.{◌≡◌, sym, ap, ◌∙◌}
use mathlib.Core.List.{List, [], ◌∷◌, ◌++◌}
use Prim.Native.Nat.{ℕ, suc, ◌+◌, ◌≤◌, ◌<◌}
use native.Mathlib.Omega.{arith}
use lib.ListN.{length, get_or, drop, set, length-set, replicate, length-replicate, get_or-replicate, get_or-append}
use lib.Seq.{get_or-take, get_or-drop}
use Rattle.space.specs.Moves.{overlaid}
use Rattle.space.proofs.Overlaid.{overlaid-length, overlaid_one, overlaid_after, overlaid_back, overlaid_below, overlaid_above}
use Rattle.index.specs.Index.{pairs_at, index_words, blank}
use Rattle.index.specs.bridge.Noting.{pair_room}
use Rattle.index.specs.bridge.Laying.{laid_out}

pub blank_long : (n : ℕ) → length (blank n) ≡ n
unfolding blank
blank_long n = length-replicate {0} {A = ℕ} n 0

-- filled with zeros
pub filled : (n : ℕ) {s : List ℕ} → s ≡ replicate n 0 → s ≡ blank n
unfolding blank
filled n e = e

module _ (room table pairs : List ℕ) (count : ℕ) {s₁ s₂ : List ℕ} (long : length room ≡ index_words) (short : length table ≤ pairs_at)
    (few : length pairs ≤ pair_room) (e₁ : s₁ ≡ blank (length room)) (e₂ : s₂ ≡ overlaid s₁ 0 table) where
  zeros_long : length s₁ ≡ index_words
  zeros_long = ap length e₁ ∙ blank_long (length room) ∙ long

  table_long : length s₂ ≡ index_words
  table_long = ap length e₂ ∙ overlaid-length s₁ 0 table (omega (arith, zeros_long, short)) ∙ zeros_long

  pub counted_long : length (set s₂ pairs_at count) ≡ index_words
  counted_long = length-set s₂ pairs_at count ∙ table_long

  counted : set s₂ pairs_at count ≡ overlaid s₂ pairs_at (count ∷ [])
  counted = sym (overlaid_one s₂ pairs_at count (omega (arith, table_long)))

  pub all_laid : {s₃ : List ℕ} → s₃ ≡ overlaid (set s₂ pairs_at count) (pairs_at + 1) pairs
      → s₃ ≡ laid_out table count pairs
  all_laid e =
      e
      ∙ ap (λ s. overlaid s (pairs_at + 1) pairs) counted
      ∙ overlaid_after s₂ pairs_at (count ∷ []) pairs (omega (arith, table_long))
      ∙ ap (λ s. overlaid s pairs_at (count ∷ pairs)) (e₂ ∙ ap (λ s. overlaid s 0 table) (e₁ ∙ ap blank long))

  pub all_long : {s₃ : List ℕ} → s₃ ≡ overlaid (set s₂ pairs_at count) (pairs_at + 1) pairs → length s₃ ≡ length room
  all_long e =
      ap length e ∙ overlaid-length (set s₂ pairs_at count) (pairs_at + 1) pairs (omega (arith, counted_long, few)) ∙ counted_long ∙ sym long

-- ---- the word at a place

at_drop : (l : List ℕ) (i : ℕ) → get_or l i 0 ≡ get_or (drop i l) 0 0
at_drop l i = let z : i + 0 ≡ i = omega arith in sym (get_or-drop i l 0 0 ∙ ap (λ k. get_or l k 0) z)

module _ (table pairs : List ℕ) (count : ℕ) (short : length table ≤ pairs_at) where
  abbrev base : List ℕ
  base = overlaid (blank index_words) 0 table

  abbrev laid : List ℕ
  laid = laid_out table count pairs

  full : length base ≡ index_words
  full = overlaid-length (blank index_words) 0 table (omega (arith, short, blank_long index_words)) ∙ blank_long index_words

  pub laid_long : length pairs ≤ pair_room → length laid ≡ index_words
  laid_long h = overlaid-length base pairs_at (count ∷ pairs) (omega (arith, full, h)) ∙ full

  below : (i : ℕ) → i < pairs_at → get_or laid i 0 ≡ get_or base i 0
  below i h =
      sym (get_or-take (i + 1) laid i 0 (omega arith))
      ∙ ap (λ l. get_or l i 0) (overlaid_below base pairs_at (count ∷ pairs) (omega (arith, full)) (i + 1) (omega arith))
      ∙ get_or-take (i + 1) base i 0 (omega arith)

  on_table : (i : ℕ) → i < length table → get_or base i 0 ≡ get_or table i 0
  unfolding overlaid
  on_table i h = get_or-append table (drop (0 + length table) (blank index_words)) 0 i h

  past_table : (i : ℕ) → length table ≤ i → i < index_words → get_or base i 0 ≡ 0
  unfolding blank
  past_table i h b =
      at_drop base i
      ∙ ap (λ l. get_or l 0 0) (overlaid_above (blank index_words) 0 table (omega arith) i (omega arith))
      ∙ sym (at_drop (blank index_words) i)
      ∙ get_or-replicate index_words i 0 0 b

  behind : (k : ℕ) → get_or laid (pairs_at + k) 0 ≡ get_or ((count ∷ pairs) ++ drop (pairs_at + length (count ∷ pairs)) base) k 0
  behind k =
      sym (get_or-drop pairs_at laid k 0)
      ∙ ap (λ l. get_or l k 0) (overlaid_back base pairs_at (count ∷ pairs) (omega (arith, full)))

  -- of the table,
  pub of_table : (i : ℕ) → i < length table → get_or table i 0 ≡ get_or laid i 0
  of_table i h = sym (below i (omega (arith, short)) ∙ on_table i h)

  -- zero behind it,
  pub of_none : (i : ℕ) → length table ≤ i → i < pairs_at → 0 ≡ get_or laid i 0
  of_none i h b = sym (below i b ∙ past_table i h (omega arith))

  -- the number of pairs,
  pub of_count : (i : ℕ) → i ≡ pairs_at → count ≡ get_or laid i 0
  of_count i e = let z : i ≡ pairs_at + 0 = omega (arith, e) in sym (ap (λ k. get_or laid k 0) z ∙ behind 0)

  -- of the pairs,
  pub of_pairs : (i k : ℕ) → i ≡ pairs_at + suc k → k < length pairs → get_or pairs k 0 ≡ get_or laid i 0
  of_pairs i k e h = sym (ap (λ n. get_or laid n 0) e ∙ behind (suc k) ∙ get_or-append pairs (drop (pairs_at + length (count ∷ pairs)) base) 0 k h)

  -- and zero behind them
  pub of_rest : (i k : ℕ) → i ≡ pairs_at + suc k → length pairs ≤ k → i < index_words → 0 ≡ get_or laid i 0
  of_rest i k e h b =
      sym (at_drop laid i
      ∙ ap (λ l. get_or l 0 0) (overlaid_above base pairs_at (count ∷ pairs) (omega (arith, full)) i (omega (arith, e)))
      ∙ sym (at_drop base i)
      ∙ past_table i (omega (arith, short, e)) b)
