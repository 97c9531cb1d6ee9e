-- Bridge: records counted one after the other, from any tally. Of a sheet's own records the tally is `totals_of` (tallies/proofs/Totals).
use Rattle.std.specs.Prelude.{cond, Option, Some, None, Result, Ok, Err, List, ℕ, ◌+◌, leb, ltb, get_or, set, replicate}
use Rattle.records.specs.declared.reading.Outcome.{Outcome}
use Rattle.records.specs.declared.reading.Outcome.TheVariants.{Ended, Stopped, Out, Error}
use Rattle.records.specs.declared.reading.Run.{Run}
use Rattle.tallies.specs.Totals.{most_records}
use Rattle.tallies.specs.declared.counting.Tally.{Tally}
use Rattle.tallies.specs.declared.counting.RefusedRecord.{RefusedRecord}
use Rattle.tallies.specs.declared.counting.Count.{Count}

-- ---- a run more

abbrev pub no_runs : Tally
no_runs = record { runs = 0; ended = 0; stopped = 0; out = 0; error = 0; codes = replicate 256 0; steps = 0 }

-- no count of a sheet goes past 65,535, and none that says so goes on
unfoldable pub one_more : ℕ → ℕ
one_more n = cond (ltb n most_records) (n + 1) n

-- 65,535 records of 4,294,967,295 steps
abbrev pub most_steps : ℕ
most_steps = 281470681677825

unfoldable pub more_steps : ℕ → ℕ → ℕ
more_steps total n = cond (leb total most_steps) (total + n) total

abbrev pub tally : ℕ → ℕ → ℕ → ℕ → ℕ → List ℕ → ℕ → Tally
tally runs ended stopped out error codes steps =
    record { runs = runs; ended = ended; stopped = stopped; out = out; error = error; codes = codes; steps = steps }

unfoldable pub counted_as : Outcome → Tally → Tally
counted_as Ended t = tally t.runs (one_more t.ended) t.stopped t.out t.error t.codes t.steps
counted_as Stopped t = tally t.runs t.ended (one_more t.stopped) t.out t.error t.codes t.steps
counted_as Out t = tally t.runs t.ended t.stopped (one_more t.out) t.error t.codes t.steps
counted_as (Error c) t =
    tally t.runs t.ended t.stopped t.out (one_more t.error) (set t.codes c (one_more (get_or t.codes c 0))) t.steps

abbrev pub summed : Tally → ℕ → ℕ → Tally
summed t runs steps = tally runs t.ended t.stopped t.out t.error t.codes steps

unfoldable pub with_run : Tally → Run → Tally
with_run t run = summed (counted_as run.outcome t) (one_more t.runs) (more_steps t.steps run.steps)

-- ---- a record more

abbrev pub Standing : Type 0
Standing = Result (Unit {0}) RefusedRecord

abbrev pub count : Tally → Standing → Count
count t s = record { tally = t; standing = s }

abbrev pub refused : ℕ → Standing
refused n = Err (record { number = n })

abbrev pub good : Tally → Count
good t = count t (Ok tt)

abbrev pub refused_at : Tally → ℕ → Count
refused_at t n = count t (refused n)

abbrev pub by_recorded : Tally → Option Run → Count
by_recorded t (Some run) = good (with_run t run)
by_recorded t None = refused_at t (t.runs + 1)

-- the first record too many is refused, whatever it is
unfoldable pub with_next : Tally → Option Run → Count
with_next t r = cond (leb most_records t.runs) (refused_at t (most_records + 1)) (by_recorded t r)

abbrev pub by_standing : Standing → Count → Option Run → Count
by_standing (Ok u) c r = with_next c.tally r
by_standing (Err n) c r = c

-- behind a record that is refused none counts
abbrev pub with_record : Count → Option Run → Count
with_record c r = by_standing c.standing c r
