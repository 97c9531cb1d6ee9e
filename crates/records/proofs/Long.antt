-- No record has more than 40 bytes: a sheet need not hold more of a line than that.
use mathlib.Core.Path.{◌≡◌, refl, ap}
use mathlib.Core.Logic.{⊎_elim}
use mathlib.Core.List.{List, [], ◌∷◌}
use Prim.Native.Nat.{ℕ, suc, ◌+◌, ◌≤◌}
use native.Mathlib.Omega.{arith}
use lib.ListN.{length}
use Rattle.whole.proofs.Numbers.{less}
use Rattle.words.specs.Places.{largest_line_number}
use Rattle.words.proofs.Choices.{by_test}
use Rattle.std.specs.Prelude.{Option, Some, None}
use Rattle.std.specs.Option.{option_and_then}
use Rattle.std.specs.List.{onto_first}
use Rattle.records.specs.Records.{is_tab, fields_of, largest_code, largest_steps, figure_of, outcome_of, run_of, recorded, of_fields, record_of}
use Rattle.records.proofs.Words.{long_word}
use Rattle.records.proofs.Figures.{long_figure}

-- ---- fields have the line's bytes, and a tab between two

-- the bytes of some fields, and one more for each
size : List (List ℕ) → ℕ
size [] = 0
size (f ∷ fs) = suc (length f) + size fs

first_size : (b : ℕ) (fs : List (List ℕ)) (n : ℕ) → size fs ≡ suc n → size (onto_first b fs) ≡ suc (suc n)
unfolding size
first_size b [] n e = absurd (omega arith)
first_size b (f ∷ fs) n e = omega arith

fields_size : (s : List ℕ) → size (fields_of s) ≡ suc (length s)
unfolding size
fields_size [] = refl
fields_size (b ∷ s) =
    by_test (is_tab b) (λ t. rw t (omega (arith, fields_size s))) (λ t. rw t (first_size b (fields_of s) (length s) (fields_size s)))

-- ---- a long field is bad

by_bad : {A B : Type 0} (o : Option A) (next : A → Option B) → ((x : A) → next x ≡ None) → option_and_then next o ≡ None
by_bad (Some x) next h = h x
by_bad None next h = refl

module _ (w n l s : List ℕ) where
  bad_number : 11 ≤ length n → recorded w n l s ≡ None
  unfolding recorded
  bad_number h = rw (long_figure largest_code (omega arith) n h)

  bad_line : 11 ≤ length l → recorded w n l s ≡ None
  unfolding recorded
  bad_line h = by_bad (figure_of largest_code n) _ (λ code. rw (long_figure largest_line_number (omega arith) l h))

  bad_steps : 11 ≤ length s → recorded w n l s ≡ None
  unfolding recorded
  bad_steps h =
      by_bad (figure_of largest_code n) _
      (λ code. by_bad (figure_of largest_line_number l) _ (λ place. rw (long_figure largest_steps (omega arith) s h)))

  bad_word : 8 ≤ length w → recorded w n l s ≡ None
  unfolding recorded
  bad_word h =
      by_bad (figure_of largest_code n) _
      (λ code. by_bad (figure_of largest_line_number l) _
      (λ place. by_bad (figure_of largest_steps s) _ (λ count. ap (λ x. option_and_then (run_of count) (option_and_then (λ y. outcome_of y code) x)) (long_word w h))))

  long_recorded : 42 ≤ size (w ∷ n ∷ l ∷ s ∷ []) → recorded w n l s ≡ None
  unfolding size
  long_recorded h =
      ⊎_elim (λ a. ⊎_elim (λ b. ⊎_elim (λ c. bad_steps (omega arith)) bad_line (less (length l) 11)) bad_number (less (length n) 11)) bad_word
      (less (length w) 8)

long_fields : (fs : List (List ℕ)) → 42 ≤ size fs → of_fields fs ≡ None
long_fields [] h = refl
long_fields (w ∷ []) h = refl
long_fields (w ∷ n ∷ []) h = refl
long_fields (w ∷ n ∷ l ∷ []) h = refl
long_fields (w ∷ n ∷ l ∷ s ∷ []) h = long_recorded w n l s h
long_fields (w ∷ n ∷ l ∷ s ∷ x ∷ xs) h = refl

pub long_bad : (s : List ℕ) → 41 ≤ length s → record_of s ≡ None
long_bad s h = long_fields (fields_of s) (omega (arith, fields_size s))
