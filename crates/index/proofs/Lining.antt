-- The pairs of a text, line by line.
use mathlib.Core.Path.{◌≡◌, refl, sym, ap, ◌∙◌}
use mathlib.Core.List.{List, [], ◌∷◌, ◌++◌, append_assoc, append-nil}
use Prim.Native.Nat.{ℕ, ◌+◌, ◌≤◌, ◌<◌}
use native.Mathlib.Numerals.{add-one}
use native.Mathlib.Omega.{arith}
use lib.ListN.{length, drop, length-append, drop_of_length-le}
use Rattle.loader.specs.Lines.{Line, lines_of, next_line}
use Rattle.rows.proofs.Ordering.{next_drop}
use Rattle.index.specs.Pairs.{Pair, pairs_among, pairs_of}
use Rattle.index.specs.Index.{most_pairs, blank}
use Rattle.index.specs.bridge.Noting.{first_pairs, pair_room, Held}
use Rattle.index.proofs.Noting.{held_none}

-- those of the lines so far are noted, and those of the others are left
pub record Lined (text pairs : List ℕ) (row count : ℕ) : Type 0 where
  pub done : List Pair
  pub keeps : Held pairs count done
  pub whole : done ++ pairs_among (drop row (lines_of text)) ≡ pairs_of text

pub lined_none : (text : List ℕ) {pairs : List ℕ} → pairs ≡ blank pair_room → Lined text pairs 0 0
lined_none text e = record { done = []; keeps = held_none e; whole = refl }

first_pairs_lem : (ls : List Line) → pairs_among ls ≡ first_pairs ls ++ pairs_among (next_line ls)
unfolding pairs_among
first_pairs_lem [] = refl
first_pairs_lem (l ∷ ls) = refl

module _ {text pairs : List ℕ} {row count : ℕ} (c : Lined text pairs row count) where
  abbrev first : List Pair
  first = first_pairs (drop row (lines_of text))

  split : c.done ++ first ++ pairs_among (drop (row + 1) (lines_of text)) ≡ pairs_of text
  split =
      append_assoc c.done first (pairs_among (drop (row + 1) (lines_of text)))
      ∙ ap (λ l. c.done ++ l) (rw add-one (ap (λ l. first ++ pairs_among l) (sym (next_drop row (lines_of text)))) ∙ sym (first_pairs_lem (drop row (lines_of text))))
      ∙ c.whole

  pub lined_more : {after : List ℕ} {more : ℕ} → Held after more (c.done ++ first_pairs (drop row (lines_of text))) → Lined text after (row + 1) more
  lined_more h = record { done = c.done ++ first; keeps = h; whole = split }

  pub lined_full : most_pairs < length (c.done ++ first_pairs (drop row (lines_of text))) → most_pairs < length (pairs_of text)
  lined_full h =
      omega (arith, ap length split, length-append (c.done ++ first) (pairs_among (drop (row + 1) (lines_of text))))

  pub lined_all : length (lines_of text) ≤ row → Held pairs count (pairs_of text)
  unfolding pairs_among
  lined_all h =
      let e : c.done ≡ pairs_of text
      = sym (append-nil c.done) ∙ ap (λ l. c.done ++ pairs_among l) (sym (drop_of_length-le (lines_of text) h)) ∙ c.whole in
      rw (← e) c.keeps
