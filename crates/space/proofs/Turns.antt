-- A turn of each loop: what is left to do makes the same of the slice after it as before it.
use mathlib.Core.Path.{◌≡◌, sym, ap, ◌∙◌}
use mathlib.Core.List.{List, [], ◌∷◌}
use Prim.Native.Nat.{ℕ, suc, ◌+◌, ◌-◌, ◌<◌}
use native.Mathlib.Numerals.{add-one}
use native.Mathlib.Omega.{arith}
use lib.ListN.{length, drop, get_or, set, length-set}
use lib.Seq.{drop-cons, take-suc-set, append_snoc}
use Rattle.space.specs.Moves.{overlaid, cleared}
use Rattle.space.proofs.Overlaid.{overlaid_one, overlaid_after}

-- a byte, and those behind it
drop_next : (s : List ℕ) (i : ℕ) → i < length s → drop i s ≡ get_or s i 0 ∷ drop (i + 1) s
drop_next s i h = rw (add-one, drop-cons s i 0)

module _ (space : List ℕ) (to : ℕ) where
  -- the first byte is stored, and the others are laid
  first_laid : (b : ℕ) (bytes : List ℕ) → to < length space → overlaid (set space to b) (to + 1) bytes ≡ overlaid space to (b ∷ bytes)
  first_laid b bytes h =
      ap (λ s. overlaid s (to + 1) bytes) (sym (overlaid_one space to b h)) ∙ overlaid_after space to (b ∷ []) bytes (omega arith)

-- bytes copied in, from the first on
pub copy_turn : (space : List ℕ) (to : ℕ) (bytes : List ℕ) (i : ℕ) → i < length bytes → to + i < length space
    → overlaid (set space (to + i) (get_or bytes i 0)) (to + (i + 1)) (drop (i + 1) bytes) ≡ overlaid space (to + i) (drop i bytes)
copy_turn space to bytes i h k =
    let e : to + (i + 1) ≡ to + i + 1 = omega arith in
    rw (e, drop_next bytes i h) (first_laid space (to + i) (get_or bytes i 0) (drop (i + 1) bytes) k)

-- bytes zeroed
pub clear_turn : (space : List ℕ) (i : ℕ) → i < length space → cleared (set space i 0) (i + 1) ≡ cleared space i
unfolding cleared
clear_turn space i h =
    let k : length space - i ≡ suc (length space - suc i) = omega arith in
    rw (add-one i, length-set, take-suc-set, k, append_snoc)
