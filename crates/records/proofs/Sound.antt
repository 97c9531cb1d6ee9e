-- What a record tells is within the limits of the request.
use mathlib.Core.Path.{◌≡◌, refl, subst}
use mathlib.Core.List.{List, [], ◌∷◌}
use Prim.Native.Nat.{ℕ, ◌≤◌}
use lib.Dec.{eqb}
use Rattle.std.specs.Prelude.{Option, Some, None, IfSome}
use Rattle.std.specs.Option.{option_and_then}
use Rattle.words.specs.Places.{largest_line_number}
use Rattle.words.proofs.Choices.{by_test}
use Rattle.records.specs.Records.{fields_of, largest_code, largest_steps, figure_of, word_of, outcome_of, told_by, run_of, recorded, of_fields, record_of}
use Rattle.records.specs.declared.reading.Outcome.{Outcome}
use Rattle.records.specs.declared.reading.Outcome.TheVariants as outcome
use Rattle.records.specs.declared.reading.OutcomeWord.{OutcomeWord}
use Rattle.records.specs.declared.reading.OutcomeWord.TheVariants as word
use Rattle.records.specs.declared.reading.Run.{Run}
use Rattle.records.proofs.Figures.{figure_within}

abbrev pub CodeWithin : Outcome → Type 0
CodeWithin outcome.Ended = Unit {0}
CodeWithin outcome.Stopped = Unit {0}
CodeWithin outcome.Out = Unit {0}
CodeWithin (outcome.Error code) = code ≤ largest_code

abbrev pub Within : Run → Type 0
Within run = (run.steps ≤ largest_steps) × CodeWithin run.outcome

told_within : (w : OutcomeWord) (n : ℕ) → n ≤ largest_code → IfSome (outcome_of w n) CodeWithin
told_within word.Ended n h = by_test (eqb n 0) (λ t. rw t tt) (λ t. rw t tt)
told_within word.Stopped n h = by_test (eqb n 0) (λ t. rw t tt) (λ t. rw t tt)
told_within word.Out n h = by_test (eqb n 0) (λ t. rw t tt) (λ t. rw t tt)
told_within word.Error n h = by_test (eqb n 0) (λ t. rw t tt) (λ t. rw t h)

some_holds : {A : Type 0} (P : A → Type 0) {o : Option A} {x : A} → o ≡ Some x → IfSome o P → P x
some_holds P e h = subst (λ o. IfSome o P) e h

-- what holds of all that the next step gives holds of the two
then_holds : {A B : Type 0} (P : B → Type 0) (next : A → Option B) (o : Option A)
    → ((x : A) → o ≡ Some x → IfSome (next x) P) → IfSome (option_and_then next o) P
then_holds P next None h = tt
then_holds P next (Some x) h = h x refl

recorded_within : (w n l s : List ℕ) → IfSome (recorded w n l s) Within
unfolding recorded
recorded_within w n l s =
    then_holds Within _ (figure_of largest_code n)
    (λ code c. then_holds Within _ (figure_of largest_line_number l)
    (λ place p. then_holds Within _ (figure_of largest_steps s)
    (λ count e. then_holds Within (run_of count) (told_by w code)
    (λ o t. (figure_within largest_steps s count e, some_holds CodeWithin t (then_holds CodeWithin (λ x. outcome_of x code) (word_of w) (λ x v. told_within x code (figure_within largest_code n code c))))))))

fields_within : (fs : List (List ℕ)) → IfSome (of_fields fs) Within
fields_within [] = tt
fields_within (w ∷ []) = tt
fields_within (w ∷ n ∷ []) = tt
fields_within (w ∷ n ∷ l ∷ []) = tt
fields_within (w ∷ n ∷ l ∷ s ∷ []) = recorded_within w n l s
fields_within (w ∷ n ∷ l ∷ s ∷ x ∷ xs) = tt

pub record_within : (s : List ℕ) → IfSome (record_of s) Within
record_within s = fields_within (fields_of s)
