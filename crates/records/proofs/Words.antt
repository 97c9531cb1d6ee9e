-- The outcome words, compared as a whole.
use mathlib.Core.Path.{◌≡◌, refl, ap}
use mathlib.Core.Bool.{Bool, true, false, cond, ◌&&◌}
use mathlib.Core.List.{List, [], ◌∷◌}
use Prim.Native.Nat.{ℕ, suc, ◌≤◌}
use native.Mathlib.Omega.{arith}
use lib.Dec.{eqb}
use lib.ListN.{length}
use Rattle.std.proofs.Common.{Some, None}
use Rattle.std.specs.Str.{bytes_eq}
use Rattle.std.proofs.Math.Bool.{and-false}
use Rattle.whole.specs.Bytes.{bytes}
use Rattle.words.specs.Spellings.{same_bytes, meaning}
use Rattle.records.specs.Records.{outcome_words, word_of}
use Rattle.records.specs.declared.reading.OutcomeWord.TheVariants as word

-- spellings of unlike lengths differ
pub unlike_lengths : (s t : List ℕ) → (length s ≡ length t → ⊥) → same_bytes s t ≡ false
unfolding same_bytes
unlike_lengths [] [] h = absurd (h refl)
unlike_lengths [] (b ∷ t) h = refl
unlike_lengths (a ∷ s) [] h = refl
unlike_lengths (a ∷ s) (b ∷ t) h = rw (unlike_lengths s t (λ e. h (ap suc e))) (and-false (eqb a b))

-- what `==` says of two fields
eq_same : (s t : List ℕ) → bytes_eq s t ≡ same_bytes s t
unfolding same_bytes
eq_same [] [] = refl
eq_same [] (b ∷ t) = refl
eq_same (a ∷ s) [] = refl
eq_same (a ∷ s) (b ∷ t) = ap (λ x. eqb a b && x) (eq_same s t)

-- the words compared in the order of their table
pub word_told : (s : List ℕ) → word_of s
    ≡ cond (bytes_eq s (bytes "ended")) (Some word.Ended)
    (cond (bytes_eq s (bytes "stopped")) (Some word.Stopped)
    (cond (bytes_eq s (bytes "out")) (Some word.Out) (cond (bytes_eq s (bytes "error")) (Some word.Error) None)))
unfolding outcome_words meaning
word_told s = simp eq_same

-- no outcome word has more than seven letters
pub long_word : (s : List ℕ) → 8 ≤ length s → word_of s ≡ None
unfolding outcome_words meaning bytes
long_word s h =
    rw (
      unlike_lengths s (bytes "ended") (λ e. omega (arith, e)),
      unlike_lengths s (bytes "stopped") (λ e. omega (arith, e)),
      unlike_lengths s (bytes "out") (λ e. omega (arith, e)),
      unlike_lengths s (bytes "error") (λ e. omega (arith, e)),
    )
