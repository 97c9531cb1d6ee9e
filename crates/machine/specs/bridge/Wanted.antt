-- Bridge: what a statement asks the records for, and the search that the code makes for it.
-- The contracts of functions that crates use among themselves cite it; no demand and no promise of run, check_recipe or ask rests on it.
use Rattle.std.specs.Prelude.{◌≡◌, Bool, true, false, cond, not, ◌&&◌, List, ℕ, zero, suc, ◌<◌, eqb, get_or, None, Option, Some}
use Rattle.machine.specs.Machine as spec
use Rattle.machine.specs.Machine.{missing, sought}
use Rattle.machine.specs.bridge.Holding.{blank_record, counts, repeats, passes, record_of, records_in}
use Rattle.machine.specs.declared.records.Record.{Record}
use Rattle.machine.specs.declared.records.Sought.{Sought}
use Rattle.machine.specs.declared.records.Sought.TheVariants as asked

-- a record is the one that is asked for: the nearest GOSUB's, the topmost FOR's, that of the loop of the variable at an entry, and
-- that of the WHILE that stands at a place of a line, or whose WEND does
abbrev pub is_sought : Sought → Record → Bool
is_sought asked.Nothing e = false
is_sought asked.Call e = not (passes e)
is_sought asked.Loop e = counts e
is_sought (asked.LoopOf slot) e = counts e && eqb e.slot slot
is_sought (asked.WhileAt line at) e = (repeats e && eqb e.line line.0) && eqb e.at at.0
is_sought (asked.WhileOf line at) e = (repeats e && eqb e.ending line.0) && eqb e.close at.0

-- the search down from a depth
unfoldable pub found_in : Sought → List Record → ℕ → Option ℕ
found_in k rs zero = None
found_in k rs (suc d) =
    cond (is_sought k (get_or rs d blank_record)) (Some d)
    (cond (passes (get_or rs d blank_record)) (found_in k rs d) None)

-- the one found, or a blank one
abbrev pub entry_at : Option ℕ → List Record → Record
entry_at (Some i) rs = get_or rs i blank_record
entry_at None rs = blank_record

-- ---- what a statement was told of the records: the one that passes the definition's test was looked up

-- the record at a slot, which is the one that the definition finds
pub record FoundAt (text names : List ℕ) (test : spec.Record → Bool) (depth i : ℕ) (entry : Record) (rs : List Record) : Type 0 where
  pub below : i < depth
  pub at : entry ≡ get_or rs i blank_record
  pub passes : test (record_of text names entry) ≡ true
  pub is : sought test (records_in text names rs depth) ≡ spec.found (record_of text names entry) (records_in text names rs i)

abbrev pub Told : List ℕ → List ℕ → (spec.Record → Bool) → ℕ → Option ℕ → Record → List Record → Type 0
Told text names test depth (Some i) entry rs = FoundAt text names test depth i entry rs
Told text names test depth None entry rs = sought test (records_in text names rs depth) ≡ missing
