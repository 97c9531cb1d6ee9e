-- The pairs of a line as words, and one pair more.
use Rattle.std.specs.Prelude.{Option, Some}
use mathlib.Core.Path.{◌≡◌, refl, sym, ap, ap₂, ◌∙◌}
use mathlib.Core.Bool.{Bool, true, false, ◌||◌}
use mathlib.Core.List.{List, [], ◌∷◌, ◌++◌, append_assoc}
use Prim.Native.Nat.{ℕ, ◌+◌, ◌*◌, ◌-◌, ◌≤◌, ◌<◌, zero-le}
use native.Mathlib.Omega.{arith}
use lib.Dec.{eqb}
use lib.ListN.{length, drop, set, length-append}
use lib.Seq.{drop_at}
use Rattle.words.specs.declared.places.LineNumber.{LineNumber}
use Rattle.space.specs.Moves.{overlaid}
use Rattle.space.proofs.Overlaid.{overlaid-length, overlaid_none, overlaid_one, overlaid_after}
use Rattle.index.specs.Pairs.{Pair, is_in, with_named, pairs_with}
use Rattle.index.specs.Index.{pair_words, most_pairs, blank}
use Rattle.index.specs.bridge.Noting.{named_among, pair_room, Held}
use Rattle.index.proofs.Laying.{blank_long}

-- ---- pairs as words

pub pair_words_append : (ps qs : List Pair) → pair_words (ps ++ qs) ≡ pair_words ps ++ pair_words qs
unfolding pair_words
pair_words_append [] qs = refl
pair_words_append (p ∷ ps) qs = ap (λ l. p.named ∷ p.naming ∷ l) (pair_words_append ps qs)

pub pair_words_long : (ps : List Pair) → length (pair_words ps) ≡ 2 * length ps
unfolding pair_words
pair_words_long [] = refl
pair_words_long (p ∷ ps) = omega (arith, pair_words_long ps)

pub pairs_with_long : (own : ℕ) (ns : List ℕ) → length (pairs_with own ns) ≡ length ns
unfolding pairs_with
pairs_with_long own [] = refl
pairs_with_long own (n ∷ ns) = omega (arith, pairs_with_long own ns)

pairs_with_append : (own : ℕ) (ns ms : List ℕ) → pairs_with own (ns ++ ms) ≡ pairs_with own ns ++ pairs_with own ms
unfolding pairs_with
pairs_with_append own [] ms = refl
pairs_with_append own (n ∷ ns) ms = ap (λ l. record { named = n; naming = own } ∷ l) (pairs_with_append own ns ms)

-- the lines that a line names so far are in its pairs
named_in : (n own : ℕ) (seen rest : List ℕ) → named_among n (length seen) (pair_words (pairs_with own seen) ++ rest) ≡ is_in n seen
unfolding named_among pairs_with pair_words is_in
named_in n own [] rest = refl
named_in n own (m ∷ seen) rest = ap (λ b. eqb m n || b) (named_in n own seen rest)

-- ---- one word more at the front of a room

front_laid : (room words : List ℕ) → overlaid room 0 words ≡ words ++ drop (0 + length words) room
unfolding overlaid
front_laid room words = refl

stored : (room words : List ℕ) (k v : ℕ) → k ≡ length words → k < length room → set (overlaid room 0 words) k v ≡ overlaid room 0 (words ++ (v ∷ []))
stored room words k v e h =
    let long = overlaid-length room 0 words (omega arith) in
    let start : k ≡ 0 + length words = omega arith in
    sym (overlaid_one (overlaid room 0 words) k v (omega (arith, long)))
    ∙ ap (λ i. overlaid (overlaid room 0 words) i (v ∷ [])) start
    ∙ overlaid_after room 0 words (v ∷ []) zero-le

-- ---- one pair more

held_more : {pairs : List ℕ} {count : ℕ} {ps : List Pair} (p : Pair) → Held pairs count ps → count < most_pairs
    → Held (set (set pairs (2 * count) p.named) (2 * count + 1) p.naming) (count + 1) (ps ++ (p ∷ []))
unfolding pair_words
held_more {pairs} {count} {ps} p h few =
    let room = blank pair_room in
    let long = blank_long pair_room in
    let w = pair_words ps in
    let size = pair_words_long ps in
    let first = stored room w (2 * count) p.named (omega (arith, size, h.counts)) (omega (arith, long)) in
    let second = stored room (w ++ (p.named ∷ [])) (2 * count + 1) p.naming
    (omega (arith, size, h.counts, length-append w (p.named ∷ []))) (omega (arith, long)) in
    record {
      words =
          ap (λ l. set (set l (2 * count) p.named) (2 * count + 1) p.naming) h.words
          ∙ ap (λ l. set l (2 * count + 1) p.naming) first
          ∙ second
          ∙ ap (overlaid room 0) (append_assoc w (p.named ∷ []) (p.naming ∷ []) ∙ sym (pair_words_append ps (p ∷ [])));
      counts = omega (arith, h.counts, length-append ps (p ∷ []));
      few = omega (arith, h.counts, length-append ps (p ∷ []));
    }

-- ---- what a statement names

module _ (own : ℕ) (done : List Pair) (seen : List ℕ) {pairs : List ℕ} {from count : ℕ} (starts : from ≡ length done)
    (h : Held pairs count (done ++ pairs_with own seen)) where
  counted : count ≡ length done + length seen
  counted = omega (arith, h.counts, length-append done (pairs_with own seen), pairs_with_long own seen)

  -- the pairs of the line have it just where it was named before
  held_named : (n : ℕ) → named_among n (count - from) (drop (2 * from) pairs) ≡ is_in n seen
  held_named n =
      let mine = pair_words (pairs_with own seen) in
      let rest = drop (0 + length (pair_words (done ++ pairs_with own seen))) (blank pair_room) in
      let left : count - from ≡ length seen = omega (arith, counted) in
      let cut : drop (2 * from) pairs ≡ mine ++ rest
      = ap (drop (2 * from)) (h.words ∙ front_laid (blank pair_room) (pair_words (done ++ pairs_with own seen))
      ∙ ap (λ l. l ++ rest) (pair_words_append done (pairs_with own seen)) ∙ append_assoc (pair_words done) mine rest)
      ∙ drop_at (pair_words done) (mine ++ rest) (2 * from) (omega (arith, pair_words_long done)) in
      ap₂ (named_among n) left cut ∙ named_in n own seen rest

  module _ {names : Option LineNumber} {line : LineNumber} {told : Bool} (is : names ≡ Some line)
      (e : told ≡ named_among line.0 (count - from) (drop (2 * from) pairs)) where
    seen_so : told ≡ is_in line.0 seen
    seen_so = e ∙ held_named line.0

    with_seen : told ≡ true → with_named seen names ≡ seen
    with_seen t = rw (is, sym seen_so ∙ t)

    with_new : told ≡ false → with_named seen names ≡ seen ++ (line.0 ∷ [])
    with_new t = rw (is, sym seen_so ∙ t)

    pub noted_seen : told ≡ true → Held pairs count (done ++ pairs_with own (with_named seen names))
    noted_seen t = rw (with_seen t) h

    pub noted_full : told ≡ false → most_pairs ≤ count → most_pairs < length (done ++ pairs_with own (with_named seen names))
    noted_full t full =
        rw (with_new t)
        (omega (arith, counted, length-append done (pairs_with own (seen ++ (line.0 ∷ []))), pairs_with_long own (seen ++ (line.0 ∷ [])), length-append seen (line.0 ∷ [])))

    pub noted_more : told ≡ false → count < most_pairs
        → Held (set (set pairs (2 * count) line.0) (2 * count + 1) own) (count + 1) (done ++ pairs_with own (with_named seen names))
    unfolding pairs_with
    noted_more t few =
        let p : Pair = record { named = line.0; naming = own } in
        let same : done ++ (pairs_with own seen ++ (p ∷ [])) ≡ done ++ pairs_with own (seen ++ (line.0 ∷ []))
        = ap (λ l. done ++ l) (sym (pairs_with_append own seen (line.0 ∷ []))) in
        rw (with_new t, ← same, ← append_assoc done (pairs_with own seen) (p ∷ [])) (held_more p h few)

-- ---- the room

pub held_long : {pairs : List ℕ} {count : ℕ} {ps : List Pair} → Held pairs count ps → length pairs ≡ pair_room
held_long {ps = ps} h =
    let b = blank_long pair_room in
    ap length h.words ∙ overlaid-length (blank pair_room) 0 (pair_words ps) (omega (arith, b, h.few, pair_words_long ps)) ∙ b

pub held_none : {pairs : List ℕ} → pairs ≡ blank pair_room → Held pairs 0 []
unfolding pair_words
held_none e = record { words = e ∙ sym (overlaid_none (blank pair_room) 0); counts = refl; few = omega arith }
