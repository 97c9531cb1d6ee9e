-- The numbers that a host is answered with.
use Rattle.checker.specs.declared.checking.Fault.{Fault}
use Rattle.std.specs.Prelude.{List, [], ◌∷◌, ℕ, ◌-◌, ℤ, pos, negsuc, Result, Ok, Err}
use Rattle.whole.specs.Whole.{num}
use Rattle.checker.specs.Check.{verdict_number, verdict_line, verdict_place}
use Rattle.checker.specs.declared.checking.Fault.TheVariants as verdict
use Rattle.runner.specs.Run.{number_in, line_in, place_in}
use Rattle.runner.specs.declared.running.Ran.{Ran}
use Rattle.runner.specs.declared.running.Outcome.{Outcome}
use Rattle.runner.specs.declared.running.Outcome.TheVariants.{Ended, Stopped, Out, Failed, Refused}
use Rattle.asking.specs.Asking.{asked_number}
use Rattle.loader.specs.declared.refusals.Refusal.{Refusal}
use Rattle.asking.specs.declared.questions.Asked.{Asked}
use Rattle.asking.specs.declared.questions.Asked.TheVariants as asked

-- ---- a run

-- how it ended
abbrev pub outcome_in : Outcome → ℕ
outcome_in Ended = 0
outcome_in (Stopped l) = 1
outcome_in (Out l) = 2
outcome_in (Failed e l) = 3
outcome_in (Refused r p) = 4

-- outcome, number, line, place, steps, bytes written, input bytes taken
abbrev pub answer_in : Ran → List ℕ
answer_in r =
    outcome_in r.outcome
    ∷ number_in r.outcome
    ∷ line_in r.outcome
    ∷ place_in r.outcome
    ∷ r.steps
    ∷ r.written
    ∷ r.taken
    ∷ []

-- ---- a check: 0 passed or 1 refused, number, line, place

abbrev pub passed_in : Result (Unit {0}) Fault → ℕ
passed_in (Ok _) = 0
passed_in (Err (verdict.Refused r p)) = 1
passed_in (Err (verdict.Faulty e l)) = 1

abbrev pub verdict_in : Result (Unit {0}) Fault → List ℕ
verdict_in v = passed_in v ∷ verdict_number v ∷ verdict_line v ∷ verdict_place v ∷ []

-- ---- a variable: number (0 or 111), kind (0 whole, 1 text), value, start and length in the space

-- a number in 64 bits of two's complement
abbrev pub extended_of : ℤ → ℕ
extended_of (pos n) = n
extended_of (negsuc n) = 18446744073709551615 - n

abbrev pub found_in : Result Asked Refusal → List ℕ
found_in (Ok (asked.Whole w)) = asked_number (Ok (asked.Whole w)) ∷ 0 ∷ extended_of (num w) ∷ 0 ∷ 0 ∷ []
found_in (Ok (asked.Text start n)) = asked_number (Ok (asked.Text start n)) ∷ 1 ∷ 0 ∷ start.0 ∷ n ∷ []
found_in (Err r) = asked_number (Err r) ∷ 0 ∷ 0 ∷ 0 ∷ 0 ∷ []
