-- Bridge: how the code looks a word up: its letters as one number, the first in the lowest byte and a 1 above the last.
-- The contracts of functions inside this crate cite it; no demand and no promise of run, check_recipe or ask rests on it.
use Rattle.std.specs.Prelude.{cond, List, [], ◌∷◌, ℕ, ◌+◌, ◌*◌, eqb}
use Rattle.words.specs.Spellings.{Spelt}
use Rattle.words.specs.Vocabulary.{reserved}
use Rattle.words.specs.declared.vocabulary.WordFound.{WordFound}
use Rattle.words.specs.declared.vocabulary.WordFound.TheVariants.{Free}

unfoldable pub packed : List ℕ → ℕ
packed [] = 1
packed (b ∷ s) = packed s * 256 + b

unfoldable pub unpacked_in : List (Spelt WordFound) → ℕ → WordFound
unpacked_in [] n = Free
unpacked_in (e ∷ es) n = cond (eqb n (packed e.spelling)) e.thing (unpacked_in es n)

abbrev pub unpacked : ℕ → WordFound
unpacked n = unpacked_in reserved n
