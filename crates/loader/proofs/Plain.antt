-- The first byte that a line may not hold stands behind those that it may.
use mathlib.Core.Path.{◌≡◌, refl}
use mathlib.Core.Bool.{Bool, true, false, not}
use mathlib.Core.List.{List}
use Prim.Native.Nat.{ℕ}
use native.Mathlib.Omega.{arith}
use lib.Dec.{ltb}
use lib.ListN.{length}
use Rattle.std.specs.List.{position, position_or_len}
use Rattle.std.specs.declared.option.Option.TheVariants.{Some, None}
use Rattle.std.proofs.lemmas.List.Recursion.{is_position_or_len}
use Rattle.whole.specs.Bytes.{leading}
use Rattle.whole.proofs.Never.{never}
use Rattle.words.proofs.Choices.{by_test}

module _ (test : ℕ → Bool) where
  -- so many pass as stand before the first that does not
  leading_size : (s : List ℕ) → length (leading test s) ≡ position_or_len (λ b. not (test b)) s
  unfolding leading
  leading_size s =
      is_position_or_len (λ t. length (leading test t)) (λ b. not (test b)) refl
      (λ b t. by_test (test b) (λ e. rw e (omega arith)) (λ e. rw e)) s

  module _ (s : List ℕ) where
    pub some_foreign : {i : ℕ} → position (λ b. not (test b)) s ≡ Some i
        → (ltb (length (leading test s)) (length s) ≡ true) × (length (leading test s) ≡ i)
    some_foreign e =
        rw leading_size
        (by_test (ltb (position_or_len (λ b. not (test b)) s) (length s)) (λ t. let f = rw t at e in (t, cc))
        (λ t. let f = rw t at e in never (cc)))

    pub none_foreign : position (λ b. not (test b)) s ≡ None → ltb (length (leading test s)) (length s) ≡ false
    none_foreign e =
        rw leading_size
        (by_test (ltb (position_or_len (λ b. not (test b)) s) (length s)) (λ t. let f = rw t at e in never (cc)) (λ t. t))
