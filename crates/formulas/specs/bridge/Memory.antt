-- Bridge: what working out a formula begins and ends with in memory.
-- The contracts of functions that crates use among themselves cite it; no demand and no promise of run, check_recipe or ask rests on it.
use Rattle.std.specs.Prelude.{◌≡◌, List, ℕ, zero, suc, ◌≤◌, length, Result, Ok, Err}
use Rattle.variables.specs.Strings.{Room, longest_space}
use Rattle.variables.specs.Variables.{Variables}
use Rattle.whole.specs.Whole.{flipped}
use Rattle.whole.specs.declared.errors.Error.TheVariants.{TypeMismatch}
use Rattle.words.specs.declared.symbols.Scanned.{Scanned}
use Rattle.words.specs.declared.places.Place.{Place}
use Rattle.words.specs.Places.{longest_line}
use Rattle.scanner.specs.Tokens.{token_at}
use Rattle.grammar.specs.Trees.{Formula}
use Rattle.grammar.specs.Formulas.{Reading, good}
use Rattle.skimming.specs.bridge.Remaining.{operand_of}
use Rattle.expressions.specs.Types.{depth_of}
use Rattle.operators.specs.Values.{value_of}
use Rattle.variables.specs.declared.values.Worked.{Worked}
use Rattle.variables.specs.declared.values.Worked.TheVariants as worked
use Rattle.variables.specs.bridge.Memory.{Agrees, Framed, GoesOn, Held, Looked}
use Rattle.variables.specs.Tables.{sum_of}
use Rattle.variables.specs.declared.tables.Tables.{Tables}
use Rattle.whole.specs.declared.errors.Error.{Error}

-- ---- formulas

-- a token of the line
pub record Scans (line : List ℕ) (t : Scanned) : Type 0 where
  pub from : Place
  pub is : t ≡ token_at line from

-- something reads, and no more than so many pairs of parentheses nest in it
pub record Reads (room : ℕ) (x : Reading) : Type 0 where
  pub of : Formula
  pub next : Scanned
  pub is : x ≡ good of next
  pub shallow : depth_of of ≤ room

-- an operand does at some level
pub record OperandReads (room : ℕ) (line : List ℕ) (t : Scanned) : Type 0 where
  pub level : ℕ
  pub reads : Reads room (operand_of line level t)

-- what working out begins with: the variables' strings stand below `used`
pub record Ready (line lengths space : List ℕ) (used : ℕ) : Type 0 where
  pub variables : sum_of lengths ≤ used
  pub within : used ≤ length space
  pub small : length space ≤ longest_space
  pub short : length line ≤ longest_line

-- what it ends with: the answer agrees with the formula's value
pub record Evaluated (tables : Tables) (f : Formula) (u : Scanned) (before : List ℕ) (used : ℕ) (r : Result Worked Error) (after : List ℕ) : Type 0 where
  pub framed : Framed before used r after
  pub agrees : (vars : Variables) → Looked vars tables before
      → (room : Room) → Held room before used → Agrees r after used (value_of f vars room)
  pub goes : GoesOn r u

-- what NOT and the minus sign make of what is behind them, and a parenthesis of what it closes

abbrev pub whole_as : Result Worked Error → (ℕ → Scanned → Result Worked Error) → Result Worked Error
whole_as (Ok (worked.Whole w t)) go = go w t
whole_as (Ok (worked.Text n t)) go = Err TypeMismatch
whole_as (Err e) go = Err e

-- a word turned so many times
unfoldable pub flipped_by : ℕ → ℕ → ℕ
flipped_by zero w = w
flipped_by (suc n) w = flipped (flipped_by n w)

abbrev pub closed_as : List ℕ → Result Worked Error → Result Worked Error
closed_as line (Ok (worked.Whole w t)) = Ok (worked.Whole w (token_at line t.next))
closed_as line (Ok (worked.Text n t)) = Ok (worked.Text n (token_at line t.next))
closed_as line (Err e) = Err e
