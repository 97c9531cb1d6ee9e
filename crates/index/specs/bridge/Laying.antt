-- Bridge: an index laid out of its parts. The contracts of functions inside this crate cite it.
use Rattle.std.specs.Prelude.{List, ◌∷◌, ℕ}
use Rattle.space.specs.Moves.{overlaid}
use Rattle.index.specs.Index.{pairs_at, index_words, blank}

-- a table, how many pairs, and the pairs
abbrev pub laid_out : List ℕ → ℕ → List ℕ → List ℕ
laid_out table count pairs = overlaid (overlaid (blank index_words) 0 table) pairs_at (count ∷ pairs)
