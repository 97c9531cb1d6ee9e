-- Unfinished strings, counted request by request: which strings are unfinished whenever a run asks for another is what `StringSpace` says,
-- and no counter of the machine is used. A statement has the proof of its name, in snake case, in `proofs/Counting/Runs.antt`.
use Rattle.std.specs.Prelude.{◌≡◌, List, ℕ, ◌+◌, ◌≤◌, length, Ok}
use Rattle.loader.specs.Lines.{Line, lines_of}
use Rattle.loader.specs.Loading.{load_of}
use Rattle.grammar.specs.Trees.{Statement}
use Rattle.variables.specs.Strings.{longest_space}
use Rattle.variables.specs.Variables.{string_bytes}
use Rattle.machine.specs.Items.{fresh}
use Rattle.machine.specs.Machine.{Machine, Lent, most_records}
use Rattle.runner.specs.Run.{entering, run_of}
use Rattle.promises.specs.StringSpace.{Ask, bytes_in, StatementAsks, Begins}
use Rattle.promises.specs.Unfinished.{most_unfinished, Few}

-- the strings that are unfinished then, the asked one included
abbrev pub at_once : Ask → ℕ
at_once k = length k.unfinished + 1

-- with the bytes of all string variables the space holds them
abbrev pub Fits : ℕ → ℕ → Ask → Type 0
Fits space variables k = variables + bytes_in k.unfinished + length k.bytes ≤ space

-- a run that is not refused begins a statement, which asks for a string
pub record Request (text input : List ℕ) (lent : Lent) (budget : ℕ) : Type 0 where
  pub small : lent.space ≤ longest_space
  pub few : lent.records ≤ most_records
  pub loads : load_of text ≡ Ok tt
  pub from : List Line
  pub place : ℕ
  pub statement : Statement
  pub machine : Machine
  pub begins : Begins text budget (entering (fresh text input lent) (lines_of text)) from place statement machine
  pub asking : Machine
  pub ask : Ask
  pub asks : StatementAsks from place statement machine asking ask

-- and the space holds it
abbrev pub Granted : {text input : List ℕ} {lent : Lent} {budget : ℕ} → Request text input lent budget → Type 0
Granted {lent = lent} q = Fits lent.space (string_bytes q.asking.variables.strings) q.ask

-- Whenever a run of any text asks for a string, whether it gets it or not, at most 28 strings are unfinished with it, and so at most 32: with
-- any input, string space, room for output and budget. The strings are those that `Ask` lists, not a count that the definition keeps. It does
-- not say that 28 is reached: `MostIsRequested` does. Ruled out: a reader that lets parentheses nest 9 deep; one that groups `+` to the right, so
-- that all left sides of A$+B$+C$ and so on wait.
abbrev pub FewRequested : Type 0
FewRequested = (text input : List ℕ) (lent : Lent) (budget : ℕ) (q : Request text input lent budget) → Few (at_once q.ask)

-- No smaller number would do: some run asks for a string with 27 others unfinished. It does not say which run. Ruled out: a list of requests that
-- leaves out those made inside parentheses; one in which the left side of a comparison does not wait.
abbrev pub MostIsRequested : Type 0
MostIsRequested =
    (n : ℕ) → ((text input : List ℕ) (lent : Lent) (budget : ℕ) (q : Request text input lent budget) → at_once q.ask ≤ n)
    → most_unfinished ≤ n

-- no string was ever granted, or some request that was granted has this count
pub data Reached (text input : List ℕ) (lent : Lent) (budget : ℕ) (count : ℕ) : Type 0 where
  never : count ≡ 0 → Reached text input lent budget count
  granted : (q : Request text input lent budget) → Granted q → at_once q.ask ≡ count → Reached text input lent budget count

pub record IsHighest (text input : List ℕ) (lent : Lent) (budget : ℕ) (highest : ℕ) : Type 0 where
  pub at_least : (q : Request text input lent budget) → Granted q → at_once q.ask ≤ highest
  pub reached : Reached text input lent budget highest

-- The most unfinished strings that the machine notes are the largest count of all requests that were granted, and 0 where there was none: the
-- definition's counter and the list of strings tell the same. It says nothing of requests that were refused: such a string is never made, and
-- the run ends there. Ruled out: a counter that is put back to 0 with each statement; one that counts a result when its operands are let go;
-- one that counts a string that was refused.
abbrev pub HighestIsCounted : Type 0
HighestIsCounted =
    (text input : List ℕ) (lent : Lent) (budget : ℕ) → IsHighest text input lent budget (run_of text input lent budget).machine.highest
