-- Bytes compared one by one.
use mathlib.Core.Path.{◌≡◌, refl, ap}
use mathlib.Core.Bool.{false, ◌&&◌}
use mathlib.Core.List.{List, [], ◌∷◌}
use Prim.Native.Nat.{ℕ, ◌+◌, ◌≤◌, ◌<◌}
use borrow.Author.Tests.{leb-true, leb-false, eq-eqb, ne_eqb}
use lib.Dec.{leb, eqb}
use Rattle.std.specs.Cmp.Lexicographic.{pointwise}
use lib.ListN.{length, get_or, drop, drop_of_length-le}
use Rattle.whole.proofs.Reading.{drop_next}
use Rattle.words.specs.Spellings.{same_bytes}
use Rattle.words.proofs.Choices.{by_test}

module _ (a b : List ℕ) (i : ℕ) where
  -- equal bytes leave it to those after them
  pub same_next : i < length a → i < length b → get_or a i 0 ≡ get_or b i 0
      → same_bytes (drop i a) (drop i b) ≡ same_bytes (drop (i + 1) a) (drop (i + 1) b)
  unfolding same_bytes
  same_next h k e = rw (drop_next a i h, drop_next b i k, eq-eqb _ _ e)

  -- unequal ones decide,
  pub same_differ : i < length a → i < length b → (get_or a i 0 ≡ get_or b i 0 → ⊥) → same_bytes (drop i a) (drop i b) ≡ false
  unfolding same_bytes
  same_differ h k e = rw (drop_next a i h, drop_next b i k, ne_eqb _ _ e)

  -- and so does the end of one of them
  pub same_shorter : i < length a → length b ≤ i → same_bytes (drop i a) (drop i b) ≡ false
  unfolding same_bytes
  same_shorter h k = rw (drop_next a i h, drop_of_length-le b k)

  pub same_ended : length a ≤ i → same_bytes (drop i a) (drop i b) ≡ leb (length b) i
  unfolding same_bytes
  same_ended h =
      by_test (leb (length b) i) (λ e. rw (drop_of_length-le a h, drop_of_length-le b (leb-true _ _ e), e))
      (λ e. rw (drop_of_length-le a h, drop_next b i (leb-false _ _ e), e))

-- the test of two texts is the slices' own
pub same_pointwise : (a b : List ℕ) → same_bytes a b ≡ pointwise eqb a b
unfolding same_bytes
same_pointwise [] [] = refl
same_pointwise [] (b ∷ t) = refl
same_pointwise (a ∷ s) [] = refl
same_pointwise (a ∷ s) (b ∷ t) = ap (λ x. eqb a b && x) (same_pointwise s t)
