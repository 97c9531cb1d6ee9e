-- Runs: the bytes at the front of a list that pass a test, and where a run that begins at a place of a line ends.
use mathlib.Core.Path.{◌≡◌, refl, ap, ◌∙◌}
use mathlib.Core.Logic.{⊎_elim}
use mathlib.Core.Bool.{Bool, true, false}
use mathlib.Core.List.{List, [], ◌∷◌}
use Prim.Native.Nat.{ℕ, zero, suc, ◌+◌, ◌-◌, ◌≤◌, ◌<◌}
use native.Mathlib.Nat.{add-zero}
use native.Mathlib.Omega.{arith}
use lib.ListN.{length, get_or, take, drop, length-drop, drop_of_length-le, get_or-eq_default}
use lib.Seq.{get_or-drop}
use Rattle.whole.specs.Bytes.{leading}
use Rattle.whole.proofs.Numbers.{less}
use Rattle.whole.proofs.Reading.{drop_next, leading_inside}
use Rattle.words.proofs.Choices.{by_test}

-- a byte that a test tells from the 0 past the end stands within the line
pub in_line : {A : Type 0} (tells : ℕ → A) (s : List ℕ) (i : ℕ) → (tells (get_or s i 0) ≡ tells 0 → ⊥) → i < length s
in_line tells s i d = ⊎_elim (λ h. h) (λ h. absurd (d (ap tells (get_or-eq_default s 0 h)))) (less i (length s))

-- the first of the bytes from a place on is the one that stands there
pub front : (s : List ℕ) (i : ℕ) → get_or (drop i s) 0 0 ≡ get_or s i 0
front s i = get_or-drop i s 0 0 ∙ ap (λ k. get_or s k 0) (add-zero i)

module _ (test : ℕ → Bool) where
  -- a run is the front of the list, as long as it is
  pub take_run : (s : List ℕ) → take (length (leading test s)) s ≡ leading test s
  unfolding leading
  take_run [] = refl
  take_run (b ∷ s) = by_test (test b) (λ e. rw e (ap (λ l. b ∷ l) (take_run s))) (λ e. rw e)

  -- a first byte that passes is one of it
  pub run_some : (b : ℕ) (s : List ℕ) → test b ≡ true → 1 ≤ length (leading test (b ∷ s))
  unfolding leading
  run_some b s e = rw e (omega arith)

  -- all of a run passes
  pub run_again : (s : List ℕ) → leading test (leading test s) ≡ leading test s
  unfolding leading
  run_again [] = refl
  run_again (b ∷ s) = by_test (test b) (λ e. rw (e, e) (ap (λ l. b ∷ l) (run_again s))) (λ e. rw e)

  pub run_passes : (s : List ℕ) (i : ℕ) → i < length (leading test s) → test (get_or s i 0) ≡ true
  unfolding leading
  run_passes [] i h = absurd (omega arith)
  run_passes (b ∷ s) zero h = by_test (test b) (λ e. e) (λ e. let k = rw e at h in absurd (omega arith))
  run_passes (b ∷ s) (suc i) h =
      by_test (test b) (λ e. let k = rw e at h in run_passes s i (omega arith)) (λ e. let k = rw e at h in absurd (omega arith))

  -- a byte that passes is one of the run from its place on; one that does not, and the end, end it
  pub run_more : (s : List ℕ) (i : ℕ) → i < length s → test (get_or s i 0) ≡ true → length (leading test (drop i s)) ≡ 1 + length (leading test (drop (i + 1) s))
  unfolding leading
  run_more s i h e = rw (drop_next s i h, e) (omega arith)

  pub run_stops : (s : List ℕ) (i : ℕ) → i < length s → test (get_or s i 0) ≡ false → length (leading test (drop i s)) ≡ 0
  unfolding leading
  run_stops s i h e = rw (drop_next s i h, e)

  pub run_past : (s : List ℕ) (i : ℕ) → length s ≤ i → length (leading test (drop i s)) ≡ 0
  unfolding leading
  run_past s i h = rw (drop_of_length-le s h)

  module _ (s : List ℕ) (i : ℕ) {end : ℕ} (ends : end ≡ i + length (leading test (drop i s))) where
    -- a run ends within the line
    pub run_within : i ≤ length s → end ≤ length s
    run_within h = omega (arith, leading_inside test (drop i s), length-drop i s)

    -- and is the part from its place to its end
    pub run_part : take (end - i) (drop i s) ≡ leading test (drop i s)
    run_part = let z : end - i ≡ length (leading test (drop i s)) = omega arith in rw z (take_run (drop i s))
