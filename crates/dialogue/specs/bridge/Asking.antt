-- Bridge: LINE INPUT in two steps, as the code takes them, and what the code is asked.
-- The contracts of functions that crates use among themselves cite it; no demand and no promise of run, check_recipe or ask rests on it.
use Rattle.std.specs.Prelude.{◌≡◌, List, ℕ, ◌≤◌, length}
use Rattle.words.specs.declared.symbols.Scanned.{Scanned}
use Rattle.words.specs.Places.{longest_line}
use Rattle.grammar.specs.Trees as tree
use Rattle.grammar.specs.Trees.{Variable}
use Rattle.statements.specs.Statements.{done, input_at}
use Rattle.variables.specs.Strings.{make}
use Rattle.formulas.specs.bridge.Memory.{Scans}
use Rattle.machine.specs.Machine as spec
use Rattle.machine.specs.Machine.{room_of}
use Rattle.machine.specs.declared.state.Machine.{Machine}
use Rattle.variables.specs.Tables.{sum_of}
use Rattle.turns.specs.Steps as step
use Rattle.turns.specs.Steps.{goes_on, worked, filled, input_line}

-- a line of what is left of the input is taken
abbrev pub takes_line : Variable → spec.Position → spec.Machine → step.Next
takes_line v after n = input_line n.input n v (λ o. goes_on o after)

-- it makes a string, to which the variable is set
abbrev pub fills_in : Variable → List ℕ → spec.Position → spec.Machine → step.Next
fills_in v bytes after n = worked n (make bytes (room_of n)) (λ b o. filled v.kind v.telling bytes o (λ p. goes_on p after))

-- a LINE INPUT that reads from its text or variable on
pub record Asks (line : List ℕ) (first : Scanned) : Type 0 where
  pub short : length line ≤ longest_line
  pub scans : Scans line first
  pub prompt : List ℕ
  pub target : Variable
  pub end : Scanned
  pub is : input_at line first ≡ done (tree.line_input prompt target) end

-- the strings' bytes stand at the front of the space, and end where the machine says
pub record Laid (m : Machine) (lengths space : List ℕ) : Type 0 where
  pub all : sum_of lengths ≡ m.used.0
  pub within : m.used.0 ≤ length space
