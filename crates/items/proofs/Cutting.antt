-- How the blanks at the end of bytes are cut, one at a time from the last.
use mathlib.Core.Path.{◌≡◌}
use mathlib.Core.Bool.{true, false}
use mathlib.Core.List.{List, [], ◌∷◌}
use Prim.Native.Nat.{ℕ, zero, suc, ◌-◌, ◌≤◌, ◌<◌}
use native.Mathlib.Omega.{arith}
use Rattle.std.specs.List.{suffix_len}
use Rattle.std.proofs.lemmas.List.Sums.{suffix_len_is}
use lib.ListN.{length, get_or}
use Rattle.whole.specs.Bytes.{is}
use Rattle.words.proofs.Choices.{by_test}
use Rattle.items.specs.Items.{kept_before, cut}

kept_inside : (b : ℕ) (s : List ℕ) → length (kept_before b s) ≤ suc (length s)
kept_inside b [] = by_test (is " " b) (λ e. rw e (omega arith)) (λ e. rw e (omega arith))
kept_inside b (c ∷ s) = omega arith

-- what is left is no longer
pub cut_inside : (s : List ℕ) → length (cut s) ≤ length s
unfolding cut
cut_inside [] = omega arith
cut_inside (b ∷ s) = omega (arith, kept_inside b (cut s), cut_inside s)

-- what is cut are blanks, and what is left ends in none
Ends : ℕ → List ℕ → List ℕ → Type 0
Ends d s left = ((k : ℕ) → length left ≤ k → k < length s → is " " (get_or s k d) ≡ true)
    × (0 < length left → is " " (get_or s (length left - 1) d) ≡ false)

ends_before : (d b : ℕ) (s left : List ℕ) → Ends d s left → Ends d (b ∷ s) (kept_before b left)
unfolding Ends
ends_before d b s [] e =
    by_test (is " " b)
    (λ t. rw t (blank t, λ h. absurd (omega arith)))
    (λ t. rw t (other, λ h. t))
  where
    blank : is " " b ≡ true → (k : ℕ) → 0 ≤ k → k < length (b ∷ s) → is " " (get_or (b ∷ s) k d) ≡ true
    blank t zero h l = t
    blank t (suc k) h l = e.0 k (omega arith) (omega arith)

    other : (k : ℕ) → 1 ≤ k → k < length (b ∷ s) → is " " (get_or (b ∷ s) k d) ≡ true
    other zero h l = absurd (omega arith)
    other (suc k) h l = e.0 k (omega arith) (omega arith)
ends_before d b s (c ∷ l) e =
    let last : length (b ∷ c ∷ l) - 1 ≡ suc (length (c ∷ l) - 1) = omega arith in (later, λ h. rw last (e.1 (omega arith)))
  where
    later : (k : ℕ) → length (b ∷ c ∷ l) ≤ k → k < length (b ∷ s) → is " " (get_or (b ∷ s) k d) ≡ true
    later zero h m = absurd (omega arith)
    later (suc k) h m = e.0 k (omega arith) (omega arith)

ends_cut : (d : ℕ) (s : List ℕ) → Ends d s (cut s)
unfolding Ends cut
ends_cut d [] = (λ k h l. absurd (omega arith), λ h. absurd (omega arith))
ends_cut d (b ∷ s) = ends_before d b s (cut s) (ends_cut d s)

-- so they are the blanks at the end
pub cut_rest : (s : List ℕ) → suffix_len (is " ") s ≡ length s - length (cut s)
unfolding Ends
cut_rest s = suffix_len_is (is " ") s (length (cut s)) 0 (cut_inside s) (ends_cut 0 s).0 (ends_cut 0 s).1
