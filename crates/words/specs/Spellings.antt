-- Tables of spellings, looked up by their bytes.
use Rattle.std.specs.Prelude.{Bool, true, false, cond, ◌&&◌, List, [], ◌∷◌, ℕ, eqb}
use Prim.Native.String.{String}
use Rattle.whole.specs.Bytes.{bytes}

-- something and how it is spelt
pub record Spelt (A : Type 0) : Type 0 where
  pub spelling : List ℕ
  pub thing : A

infix 3 ◌means◌
abbrev pub ◌means◌ : {A : Type 0} → String → A → Spelt A
s means x = record { spelling = bytes s; thing = x }

-- the same bytes in the same order
unfoldable pub same_bytes : List ℕ → List ℕ → Bool
same_bytes [] [] = true
same_bytes [] (b ∷ t) = false
same_bytes (a ∷ s) [] = false
same_bytes (a ∷ s) (b ∷ t) = eqb a b && same_bytes s t

-- what a table says that bytes mean; what they mean where it does not have them
unfoldable pub meaning : {A : Type 0} → List (Spelt A) → A → List ℕ → A
meaning [] other w = other
meaning (e ∷ es) other w = cond (same_bytes w e.spelling) e.thing (meaning es other w)
