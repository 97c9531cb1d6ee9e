-- Bridge: one turn of a run: what the statement asks for, what was looked up for it, and what it leaves.
-- The contracts of functions inside this crate cite it; no demand and no promise of run, check_recipe or ask rests on it.
use Rattle.std.specs.Prelude.{◌≡◌, Bool, true, false, List, ℕ, ◌+◌, ◌<◌, ltb, set}
use Rattle.words.specs.declared.places.Place.{Place}
use Rattle.scanner.specs.Tokens.{token_at}
use Rattle.statements.specs.Statements.{lead_of, begun_by}
use Rattle.rows.specs.bridge.Rows.{count_of, span_in, Tabled}
use Rattle.rows.specs.declared.cells.Row.{Row}
use Rattle.variables.specs.declared.tables.Numbers.{Numbers}
use Rattle.machine.specs.Machine.{most_records}
use Rattle.machine.specs.Machine as spec
use Rattle.machine.specs.bridge.Holding.{lines_at, Fed, State, Sound, Same}
use Rattle.machine.specs.bridge.Seeking.{Seeks}
use Rattle.machine.specs.bridge.Wanted.{found_in, entry_at}
use Rattle.machine.specs.declared.positions.Next.TheVariants as next
use Rattle.machine.specs.declared.records.Record.{Record}
use Rattle.machine.specs.declared.records.Sought.{Sought}
use Rattle.turns.specs.bridge.Turns.{turned_to, Leaves, FoundBelow}
use Rattle.runner.specs.Run as run
use Rattle.variables.specs.declared.tables.Numbers.{Numbers}
use Rattle.runner.specs.bridge.Standings.{line_in, Stood, StandsAs, Rowed}
use Rattle.runner.specs.declared.going.Acted.{Acted}
use Rattle.runner.specs.declared.going.Asked.{Asked}
use Rattle.runner.specs.declared.going.Lookup.{Lookup}
use Rattle.runner.specs.declared.standing.Standing.{Standing}
use Rattle.runner.specs.declared.standing.Standing.TheVariants as standing

-- ---- whether a step is made

-- the run is not over, and the budget has a step left
abbrev pub goes_of : Standing → ℕ → ℕ → Bool
goes_of (standing.Over o) steps budget = false
goes_of (standing.At row at) steps budget = ltb steps budget

-- ---- what the statement asks for

-- a statement stands there
pub record At (text rows : List ℕ) (row : ℕ) (at : Place) : Type 0 where
  pub tabled : Tabled text rows
  pub inside : row < count_of rows
  pub stood : Stood text (span_in rows row) at

pub record StandsAt (text rows : List ℕ) (s : Standing) : Type 0 where
  pub row : Row
  pub at : Place
  pub is : s ≡ standing.At row at
  pub here : At text rows row.0 at

-- how it is led, and the record that it asks for
pub record Asks (numbers : Numbers) (line : List ℕ) (here at : Place) (asked : Asked) : Type 0 where
  pub led : asked.lead ≡ lead_of line true (token_at line at)
  pub seeks : Seeks numbers.names numbers.count here at asked.sought (begun_by line asked.lead)

pub record AsksAt (text rows : List ℕ) (numbers : Numbers) (s : Standing) (asked : Asked) : Type 0 where
  pub asks : (row : Row) (at : Place) → s ≡ standing.At row at → Asks numbers (line_in text (span_in rows row.0)) (span_in rows row.0).place at asked

-- ---- what was looked up

-- in some records, down from a depth
pub record LooksUp (sought : Sought) (depth : ℕ) (rs : List Record) (lookup : Lookup) : Type 0 where
  pub found : lookup.found ≡ found_in sought rs depth
  pub entry : lookup.entry ≡ entry_at lookup.found rs

-- ---- the statement is done

-- the machine that it begins with
abbrev pub stepped : State → State
stepped m =
    record { tables = m.tables; used = m.used; printer = m.printer; taken = m.taken; feed = m.feed; steps = m.steps + 1; depth = m.depth; records = m.records }

-- what it needs
pub record Ready (text : List ℕ) (m : State) (lookup : Lookup) (input space room : List ℕ) : Type 0 where
  pub below : FoundBelow m.depth lookup.found
  pub sound : Sound m input space room
  pub few : m.steps < 4294967295
  pub fed : Fed text m.feed

-- where it leads: the definition's turn was made
pub record Went (text rows : List ℕ) (rs : List Record) (m : State) (input space room : List ℕ) (r : Acted) (s : run.Standing) : Type 0 where
  pub machine : spec.Machine
  pub same : Same text (set rs r.slot r.held) m input space room machine
  pub stands : StandsAs text rows r.going.standing machine s

-- and what it leaves, whatever records there are in which it was looked up
pub record Acts (text rows : List ℕ) (row : ℕ) (at : Place) (m : State) (asked : Asked) (lookup : Lookup) (input space room : List ℕ) (r : Acted) (m' : State) (space' room' : List ℕ) : Type 0 where
  pub leaves : Leaves (stepped m) input space room (turned_to m' next.Ends) space' room'
  pub rowed : Rowed rows r.going.standing
  pub went : (w : Stood text (span_in rows row) at) (rs : List Record) → LooksUp asked.sought m.depth rs lookup
      → (n : spec.Machine) → Same text rs m input space room n
      → Went text rows rs m' input space' room' r (run.turn text n (lines_at text (span_in rows row).place.0) w.reads.of)

pub record ActsAt (text rows : List ℕ) (s : Standing) (m : State) (asked : Asked) (lookup : Lookup) (input space room : List ℕ) (r : Acted) (m' : State) (space' room' : List ℕ) : Type 0 where
  pub acts : (row : Row) (at : Place) → s ≡ standing.At row at
      → Acts text rows row.0 at m asked lookup input space room r m' space' room'
