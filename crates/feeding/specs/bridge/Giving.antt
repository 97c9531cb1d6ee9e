-- Bridge: what the code of a READ is asked, and what it leaves, variable by variable.
-- The contracts of functions that crates use among themselves cite it; no demand and no promise of run, check_recipe or ask rests on it.
use Rattle.whole.specs.declared.errors.Error.{Error}
use Rattle.std.specs.Prelude.{◌≡◌, List, ℕ, length, Err, None, Ok, Option, Result, Some}
use Rattle.whole.specs.declared.errors.Error.TheVariants.{OutOfMemory}
use Rattle.words.specs.declared.symbols.Scanned.{Scanned}
use Rattle.grammar.specs.Trees.{Variable}
use Rattle.grammar.specs.Formulas.{enough}
use Rattle.statements.specs.Statements.{listed, names_at}
use Rattle.machine.specs.Machine as spec
use Rattle.machine.specs.bridge.Holding.{Settled, Same, State}
use Rattle.machine.specs.declared.state.Machine.{Machine}
use Rattle.machine.specs.declared.records.Record.{Record}
use Rattle.turns.specs.Steps as step
use Rattle.turns.specs.Steps.{fails}
use Rattle.turns.specs.bridge.Turns.{Leads}

-- the variables of a READ that read from a token of the line on
pub record Listed (line : List ℕ) (first : Scanned) : Type 0 where
  pub all : List Variable
  pub end : Scanned
  pub is : names_at (enough line) line first ≡ listed all end

-- room for a new variable is tested last
abbrev pub set_as : Machine → Option Machine → Result Machine (Machine × Error)
set_as m (Some n) = Ok n
set_as m None = Err (m, OutOfMemory)

-- by the code's answer: the machine, and what is done next
abbrev pub machine_of : Result Machine (Machine × Error) → Machine
machine_of (Ok m) = m
machine_of (Err (m, e)) = m

abbrev pub given_met : Result Machine (Machine × Error) → (spec.Machine → step.Next) → spec.Machine → step.Next
given_met (Ok m) go = go
given_met (Err (m, e)) go = fails e

-- one variable was set, or the run ends: other tables and other bytes in the space, and all else is as it was
pub record Sets (m : State) (space : List ℕ) (m' : State) (space' : List ℕ) : Type 0 where
  pub settled : Settled m' space'
  pub printer : m'.printer ≡ m.printer
  pub taken : m'.taken ≡ m.taken
  pub steps : m'.steps ≡ m.steps
  pub depth : m'.depth ≡ m.depth
  pub records : m'.records ≡ m.records
  pub long : length space' ≡ length space

-- what the definition does with a variable comes to what is done next
abbrev pub Gives : List ℕ → State → List ℕ → (spec.Machine → (spec.Machine → step.Next) → step.Next) → Result Machine (Machine × Error) → State → List ℕ → Type 0
Gives text m space does r m' space' =
    (rs : List Record) (input room : List ℕ) (n : spec.Machine) → Same text rs m input space room n → (go : spec.Machine → step.Next)
    → Leads text rs m' input space' room (does n go) (given_met r go)
