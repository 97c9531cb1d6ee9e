-- A run record: fields parted by tabs, outcome word, error number or 0, line, steps.
use Rattle.std.specs.Prelude.{Bool, false, cond, Option, Some, None, List, [], ◌∷◌, ℕ, eqb}
use Rattle.std.specs.List.{slice_split}
use Rattle.std.specs.Option.{option_and_then}
use Rattle.std.specs.Result.{result_ok}
use Rattle.whole.specs.Bytes.{is}
use Rattle.words.specs.Places.{largest_line_number}
use Rattle.words.specs.Spellings.{Spelt, ◌means◌, meaning}
use Rattle.console.specs.Arguments.{number_given}
use Rattle.records.specs.declared.reading.Outcome.{Outcome}
use Rattle.records.specs.declared.reading.Outcome.TheVariants as outcome
use Rattle.records.specs.declared.reading.OutcomeWord.{OutcomeWord}
use Rattle.records.specs.declared.reading.OutcomeWord.TheVariants as word
use Rattle.records.specs.declared.reading.Run.{Run}

-- ---- fields parted by tabs

abbrev pub is_tab : ℕ → Bool
is_tab b = is "\t" b

abbrev pub fields_of : List ℕ → List (List ℕ)
fields_of line = slice_split is_tab line

-- ---- numbers without leading zeros

abbrev pub leads_with_zero : List ℕ → Bool
leads_with_zero [] = false
leads_with_zero (b ∷ []) = false
leads_with_zero (b ∷ c ∷ s) = is "0" b

-- digits and nothing else, the number at most so large, no leading zeros
unfoldable pub figure_of : ℕ → List ℕ → Option ℕ
figure_of most field = cond (leads_with_zero field) None (result_ok (number_given field most))

-- ---- outcomes

unfoldable pub outcome_words : List (Spelt (Option OutcomeWord))
outcome_words =
    ("ended" means Some word.Ended)
    ∷ ("stopped" means Some word.Stopped)
    ∷ ("out" means Some word.Out)
    ∷ ("error" means Some word.Error)
    ∷ []

abbrev pub word_of : List ℕ → Option OutcomeWord
word_of field = meaning outcome_words None field

-- the number is 1 to 255 for error and 0 otherwise
abbrev pub without : Outcome → ℕ → Option Outcome
without o n = cond (eqb n 0) (Some o) None

abbrev pub failed_by : ℕ → Option Outcome
failed_by n = cond (eqb n 0) None (Some (outcome.Error n))

abbrev pub outcome_of : OutcomeWord → ℕ → Option Outcome
outcome_of word.Ended n = without outcome.Ended n
outcome_of word.Stopped n = without outcome.Stopped n
outcome_of word.Out n = without outcome.Out n
outcome_of word.Error n = failed_by n

-- ---- records

abbrev pub largest_code : ℕ
largest_code = 255

abbrev pub largest_steps : ℕ
largest_steps = 4294967295

abbrev pub told_by : List ℕ → ℕ → Option Outcome
told_by field code = option_and_then (λ w. outcome_of w code) (word_of field)

abbrev pub run_of : ℕ → Outcome → Option Run
run_of steps o = Some (record { outcome = o; steps = steps })

-- the line of the record only has to be a line's number
unfoldable pub recorded : List ℕ → List ℕ → List ℕ → List ℕ → Option Run
recorded word number line steps =
    option_and_then
    (λ code. option_and_then
    (λ place. option_and_then (λ count. option_and_then (run_of count) (told_by word code)) (figure_of largest_steps steps))
    (figure_of largest_line_number line))
    (figure_of largest_code number)

-- four fields, no more and no fewer
abbrev pub of_fields : List (List ℕ) → Option Run
of_fields [] = None
of_fields (w ∷ []) = None
of_fields (w ∷ n ∷ []) = None
of_fields (w ∷ n ∷ l ∷ []) = None
of_fields (w ∷ n ∷ l ∷ s ∷ []) = recorded w n l s
of_fields (w ∷ n ∷ l ∷ s ∷ x ∷ xs) = None

abbrev pub record_of : List ℕ → Option Run
record_of line = of_fields (fields_of line)
