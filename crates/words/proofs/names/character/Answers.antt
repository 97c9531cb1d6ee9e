-- The name ends before the character, or it stands in the line.
use mathlib.Core.Path.{◌≡◌, refl}
use mathlib.Core.List.{List, [], ◌∷◌}
use Prim.Native.Nat.{ℕ, zero, suc, ◌≤◌}
use native.Mathlib.Omega.{arith}
use lib.ListN.{get_or, take, drop}
use Rattle.words.specs.Classes.{capital_of}
use Rattle.words.proofs.names.character.Goals as goal

-- the first n have no other
outside : (s : List ℕ) (n i : ℕ) → n ≤ i → get_or (take n s) i 0 ≡ 0
outside s zero i h = refl
outside [] (suc n) i h = refl
outside (b ∷ s) (suc n) zero h = absurd (omega arith)
outside (b ∷ s) (suc n) (suc i) h = outside s n i (omega arith)

pub returns-then-from-index : goal.returns-then-from-index
unfolding capital_of
returns-then-from-index c = rw (outside (drop c.args.name.at c.args.line.now) c.args.name.len c.args.index (rw c.from.ensures at c.if-from-index.true))
