-- Bridge: the run over a lent stack of records: what a step needs and makes, and what the loop comes to.
-- The contracts of functions inside this crate cite it; no demand and no promise of run, check_recipe or ask rests on it.
use Rattle.std.specs.Prelude.{◌≡◌, List, ℕ, ◌<◌, ◌≤◌, length, set, replicate, Ok}
use Rattle.loader.specs.Loading.{load_of}
use Rattle.rows.specs.bridge.Rows.{Tabled}
use Rattle.variables.specs.Strings.{longest_space}
use Rattle.variables.specs.Tables.{empty_tables}
use Rattle.variables.specs.declared.tables.Tables.{Tables}
use Rattle.machine.specs.Machine.{most_records}
use Rattle.machine.specs.bridge.Holding.{blank_record, Fed, State, Sound}
use Rattle.machine.specs.declared.records.Record.{Record}
use Rattle.runner.specs.Run as run
use Rattle.runner.specs.Run.{is_refused}
use Rattle.runner.specs.bridge.Acting.{StandsAt, LooksUp, ActsAt}
use Rattle.runner.specs.bridge.Endings.{RanAs}
use Rattle.runner.specs.declared.going.Acted.{Acted}
use Rattle.runner.specs.declared.going.Asked.{Asked}
use Rattle.runner.specs.declared.going.Going.{Going}
use Rattle.runner.specs.declared.going.Lookup.{Lookup}
use Rattle.runner.specs.declared.running.Ran.{Ran}
use Rattle.runner.specs.declared.standing.Standing.{Standing}

-- ---- one statement

-- it stands there, and there is a step left
pub record Awaits (text rows input : List ℕ) (s : Standing) (m : State) (space room : List ℕ) : Type 0 where
  pub stands : StandsAt text rows s
  pub sound : Sound m input space room
  pub few : m.steps < 4294967295
  pub fed : Fed text m.feed

-- the record that it asked for was looked up, it was done, and the record that it left was written
pub record StepsAs (text rows input : List ℕ) (s : Standing) (m : State) (space room : List ℕ) (rs : List Record) (r : Going) (m' : State) (space' room' : List ℕ) (rs' : List Record) : Type 0 where
  pub asked : Asked
  pub lookup : Lookup
  pub acted : Acted
  pub looks : LooksUp asked.sought m.depth rs lookup
  pub acts : ActsAt text rows s m asked lookup input space room acted m' space' room'
  pub goes : r ≡ acted.going
  pub left : rs' ≡ set rs acted.slot acted.held

-- ---- the whole run

-- a text that loads, and no more lent than a run takes
pub record Runnable (text space : List ℕ) (rs : List Record) : Type 0 where
  pub loads : load_of text ≡ Ok tt
  pub small : length space ≤ longest_space
  pub few : length rs ≤ most_records

-- with the table of its lines, and tables that are blank
pub record Loadable (text rows : List ℕ) (tables : Tables) (space : List ℕ) (rs : List Record) : Type 0 where
  pub tabled : Tabled text rows
  pub blank : tables ≡ empty_tables
  pub small : length space ≤ longest_space
  pub few : length rs ≤ most_records

-- what it comes to: the records are wiped
pub record LoadedAs (ran : run.Ran) (space room : List ℕ) (rs : List Record) (r : Ran) (space' room' : List ℕ) (rs' : List Record) : Type 0 where
  pub runs : RanAs ran space room r space' room'
  pub wiped : rs' ≡ replicate (length rs) blank_record
