-- Worked examples, computed by the checker.
use Rattle.loader.specs.Refusals.{refused_at}
use Rattle.std.specs.Prelude.{◌≡◌, refl, [], ◌∷◌, None, Some, Ok, Err}
use Rattle.whole.specs.Whole.{num}
use Rattle.whole.specs.declared.errors.Error.TheVariants.{TypeMismatch}
use Rattle.loader.specs.declared.refusals.Refusal.TheVariants.{ForeignByte, NoRoom, NoVariable}
use Rattle.words.specs.Places.{place, line_number}
use Rattle.variables.specs.Tables.{empty_tables}
use Rattle.checker.specs.declared.checking.Fault.TheVariants.{Faulty}
use Rattle.runner.specs.declared.running.Ran.{Ran}
use Rattle.runner.specs.declared.running.Outcome.{Outcome}
use Rattle.runner.specs.declared.running.Outcome.TheVariants.{Stopped, Refused}
use Rattle.asking.specs.declared.questions.Asked.TheVariants as asked
use Rattle.host.specs.Answers.{answer_in, verdict_in, extended_of, found_in}
use Rattle.host.specs.Receipts.{receipt_words, receipt_of, receipt_in, begun_as}

-- a run with an outcome, after 7 steps, 18 bytes written and 5 taken
ran : Outcome → Ran
ran o = record { outcome = o; steps = 7; written = 18; taken = 5; tables = empty_tables }

stopped : answer_in (ran (Stopped (line_number 20))) ≡ 1 ∷ 0 ∷ 20 ∷ 0 ∷ 7 ∷ 18 ∷ 5 ∷ []
unfolding ran
stopped = refl

refused : answer_in (ran (Refused ForeignByte (place 6))) ≡ 4 ∷ 104 ∷ 0 ∷ 6 ∷ 7 ∷ 18 ∷ 5 ∷ []
unfolding ran
refused = refl

faulty : verdict_in (Err (Faulty TypeMismatch (line_number 10))) ≡ 1 ∷ 13 ∷ 10 ∷ 0 ∷ []
faulty = refl

largest : extended_of (num 32767) ≡ 32767
unfolding num
largest = refl

-- -1 has all bits set
below_zero : found_in (Ok (asked.Whole 65535)) ≡ 0 ∷ 0 ∷ 18446744073709551615 ∷ 0 ∷ 0 ∷ []
unfolding num
below_zero = refl

a_text : found_in (Ok (asked.Text (record { 0 = 4 }) 7)) ≡ 0 ∷ 1 ∷ 0 ∷ 4 ∷ 7 ∷ []
a_text = refl

no_name : found_in (Err NoVariable) ≡ 111 ∷ 0 ∷ 0 ∷ 0 ∷ 0 ∷ []
no_name = refl

-- a short buffer
no_room : verdict_in (begun_as (refused_at NoRoom (place 0))) ≡ 1 ∷ 110 ∷ 0 ∷ 0 ∷ []
no_room = refl

-- a receipt for 41 bytes, and words that no call wrote
held_so_far : receipt_in (receipt_words (Some 41)) ≡ Some 41
unfolding receipt_of
held_so_far = refl

strange_words : receipt_in (9 ∷ 41 ∷ []) ≡ None
unfolding receipt_of
strange_words = refl
