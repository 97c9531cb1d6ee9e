-- Exact totals of some runs.
use Rattle.std.specs.Prelude.{Bool, true, false, cond, List, [], ◌∷◌, ℕ, zero, suc, ◌+◌, eqb, length}
use Rattle.records.specs.declared.reading.Outcome.{Outcome}
use Rattle.records.specs.declared.reading.Outcome.TheVariants.{Ended, Stopped, Out, Error}
use Rattle.records.specs.declared.reading.Run.{Run}
use Rattle.tallies.specs.declared.counting.Tally.{Tally}

abbrev pub is_ended : Outcome → Bool
is_ended Ended = true
is_ended Stopped = false
is_ended Out = false
is_ended (Error code) = false

abbrev pub is_stopped : Outcome → Bool
is_stopped Ended = false
is_stopped Stopped = true
is_stopped Out = false
is_stopped (Error code) = false

abbrev pub is_out : Outcome → Bool
is_out Ended = false
is_out Stopped = false
is_out Out = true
is_out (Error code) = false

abbrev pub is_error : Outcome → Bool
is_error Ended = false
is_error Stopped = false
is_error Out = false
is_error (Error code) = true

abbrev pub is_code : ℕ → Outcome → Bool
is_code c Ended = false
is_code c Stopped = false
is_code c Out = false
is_code c (Error code) = eqb code c

abbrev pub ones : Bool → ℕ
ones t = cond t 1 0

-- how many of some runs came out so
unfoldable pub how_many : (Outcome → Bool) → List Run → ℕ
how_many so [] = 0
how_many so (r ∷ rs) = ones (so r.outcome) + how_many so rs

unfoldable pub all_steps : List Run → ℕ
all_steps [] = 0
all_steps (r ∷ rs) = r.steps + all_steps rs

-- how many there are of each of n error numbers from c on
unfoldable pub codes_from : ℕ → ℕ → List Run → List ℕ
codes_from c zero rs = []
codes_from c (suc n) rs = how_many (is_code c) rs ∷ codes_from (c + 1) n rs

unfoldable pub totals_of : List Run → Tally
totals_of rs =
    record {
      runs = length rs;
      ended = how_many is_ended rs;
      stopped = how_many is_stopped rs;
      out = how_many is_out rs;
      error = how_many is_error rs;
      codes = codes_from 0 256 rs;
      steps = all_steps rs;
    }

-- at most 65,535 records
abbrev pub most_records : ℕ
most_records = 65535
