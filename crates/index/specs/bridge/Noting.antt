-- Bridge: the pairs while they are noted, as words. The contracts of functions inside this crate cite it; no promise of `index_of`,
-- `is_index_of`, `line_in` or `callers_in` rests on it.
use Rattle.std.specs.Prelude.{◌≡◌, Bool, false, ◌||◌, List, [], ◌∷◌, ℕ, zero, suc, ◌*◌, ◌≤◌, ◌<◌, eqb, length, get_or, drop, None, Option, Some}
use Rattle.whole.specs.Digits.{leading_value}
use Rattle.space.specs.Moves.{overlaid}
use Rattle.loader.specs.Lines.{Line, after_number}
use Rattle.reader.specs.Lines.{judgement}
use Rattle.index.specs.Pairs.{Pair, named_in, pairs_with}
use Rattle.index.specs.Index.{pair_words, most_pairs, blank}

-- whether a line is named in so many pairs
unfoldable pub named_among : ℕ → ℕ → List ℕ → Bool
named_among n zero pairs = false
named_among n (suc k) pairs = eqb (get_or pairs 0 0) n || named_among n k (drop 2 pairs)

abbrev pub pair_room : ℕ
pair_room = 2 * most_pairs

-- so many pairs stand at the front, and zeros after them
pub record Held (pairs : List ℕ) (count : ℕ) (ps : List Pair) : Type 0 where
  pub words : pairs ≡ overlaid (blank pair_room) 0 (pair_words ps)
  pub counts : count ≡ length ps
  pub few : length ps ≤ most_pairs

-- all pairs are noted, or there are too many
abbrev pub NotedAs : Option ℕ → List ℕ → List Pair → Type 0
NotedAs (Some k) pairs ps = Held pairs k ps
NotedAs None pairs ps = most_pairs < length ps

-- there is room for those that are counted
abbrev pub Within : Option ℕ → Type 0
Within (Some k) = k ≤ most_pairs
Within None = Unit {0}

-- the pairs of the first of some lines
abbrev pub first_pairs : List Line → List Pair
first_pairs [] = []
first_pairs (l ∷ ls) = pairs_with (leading_value l.bytes) (named_in (judgement (after_number l)))
