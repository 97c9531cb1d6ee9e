-- A number that was so before, or that something tells; and what is noted where a string is made.
use mathlib.Core.Path.{◌≡◌, refl, ◌∙◌}
use mathlib.Core.List.{List}
use mathlib.Core.Logic.{◌⊎◌, inl, inr}
use Prim.Native.Nat.{ℕ, suc, ◌+◌, ◌≤◌, max}
use native.Mathlib.Omega.{arith}
use borrow.Author.Tests.{ltb-false, leb-true, leb-false}
use lib.Dec.{ltb, leb}
use lib.ListN.{length}
use Rattle.whole.specs.Texts.{longest_string}
use Rattle.words.proofs.Choices.{by_test}
use Rattle.variables.specs.Strings.{Value, Room, make, produced}
use Rattle.promises.proofs.Waiting.Rooms.{let_go_highest}
use Rattle.promises.proofs.Counting.Rising.{highest_of}

-- it was so before, or something tells it
abbrev pub Raised : (ℕ → Type 0) → ℕ → ℕ → Type 0
Raised X before after = (after ≡ before) ⊎ X after

-- one after another, and told in other words
pub raised_on : (X : ℕ → Type 0) {a b c : ℕ} → Raised X a b → Raised X b c → Raised X a c
raised_on X h (inr x) = inr x
raised_on X (inl d) (inl e) = inl (e ∙ d)
raised_on X (inr x) (inl e) = inr (rw e x)

pub raised_as : (X Y : ℕ → Type 0) {a b : ℕ} → ((n : ℕ) → X n → Y n) → Raised X a b → Raised Y a b
raised_as X Y h (inl e) = inl e
raised_as X Y {b = b} h (inr x) = inr (h b x)

-- ---- a string that is made

module _ (X : ℕ → Type 0) where
  max_raised : (a b : ℕ) → X b → Raised X a (max a b)
  max_raised a b x =
      by_test (leb b a)
      (λ t. let e : max a b ≡ a = omega (arith, leb-true b a t) in inl e)
      (λ t. let e : max a b ≡ b = omega (arith, leb-false b a t) in inr (rw e x))

  pub make_raised : (b : List ℕ) (room : Room) → (room.live + length b ≤ room.limit → X (suc room.unfinished))
      → Raised X room.highest (highest_of (make b room))
  unfolding make
  make_raised b room h =
      by_test (ltb room.limit (room.live + length b)) (λ t. rw t (inl refl))
      (λ t. rw t (max_raised room.highest (suc room.unfinished) (h (ltb-false _ _ t))))

  pub produced_raised : (b : List ℕ) (vs : List Value) (room : Room)
      → (length b ≤ longest_string → room.live + length b ≤ room.limit → X (suc room.unfinished))
      → Raised X room.highest (highest_of (produced b vs room))
  unfolding produced make
  produced_raised b vs room h =
      by_test (ltb longest_string (length b)) (λ s. rw s (inl refl)) λ s. rw s
      (by_test (ltb room.limit (room.live + length b)) (λ t. rw t (inl refl))
      (λ t. rw t (rw let_go_highest (max_raised room.highest (suc room.unfinished) (h (ltb-false _ _ s) (ltb-false _ _ t))))))
