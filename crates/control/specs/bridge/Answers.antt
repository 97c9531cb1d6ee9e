-- Bridge: what the code of jumps, IF, FOR and NEXT is asked, and what it answers.
-- The contracts of functions inside this crate cite it; no demand and no promise of run, check_recipe or ask rests on it.
use Rattle.loader.specs.declared.lines.LineSpan.{LineSpan}
use Rattle.std.specs.Prelude.{◌≡◌, Bool, true, false, cond, List, ℕ, ◌≤◌, ltb, length, get_or, set, None, Option, Some}
use Rattle.whole.specs.declared.errors.Error.TheVariants.{OutOfMemory}
use Rattle.words.specs.declared.names.Name.{Name}
use Rattle.words.specs.Places.{place, longest_line}
use Rattle.words.specs.Names.{Telling}
use Rattle.words.specs.declared.places.Place.{Place}
use Rattle.words.specs.declared.symbols.Scanned.{Scanned}
use Rattle.words.specs.declared.symbols.Word.TheVariants.{Step}
use Rattle.grammar.specs.Tests.{choose, is_keyword}
use Rattle.grammar.specs.Trees as tree
use Rattle.grammar.specs.Trees.{Formula, number}
use Rattle.expressions.specs.Types.{deepest_nesting, depth_of}
use Rattle.statements.specs.Parts.{formulas_of, deepest}
use Rattle.grammar.specs.Formulas.{Reading, good, after, formula_of}
use Rattle.statements.specs.Statements.{done, variable_of, for_at}
use Rattle.formulas.specs.bridge.Memory.{Scans}
use Rattle.machine.specs.Machine.{passed}
use Rattle.machine.specs.Machine as spec
use Rattle.machine.specs.bridge.Holding.{loop_record, State}
use Rattle.machine.specs.declared.positions.Position.{Position}
use Rattle.machine.specs.declared.positions.Next.{Next}
use Rattle.machine.specs.declared.positions.Next.TheVariants as next
use Rattle.variables.specs.declared.tables.Numbers.{Numbers}
use Rattle.variables.specs.Variables.{most_variables}
use Rattle.variables.specs.bridge.Memory.{numbers_of}
use Rattle.control.specs.declared.jumping.Calling.{Calling}
use Rattle.control.specs.declared.jumping.Calling.TheVariants as calling
use Rattle.turns.specs.bridge.Turns.{Turn, turned_to, pushed_turn, with_tables, with_depth, number_set}

-- what becomes of a GOSUB: its line is tested before room for a record
abbrev pub calling_of : Option LineSpan → Bool → Calling
calling_of None full = calling.NoLine
calling_of (Some span) true = calling.NoRecord
calling_of (Some span) false = calling.Goes

-- a part of the line is entered, or the line is over
abbrev pub taken_turn : State → Place → Option Place → Turn
taken_turn m line (Some at) = turned_to m (next.On (record { line = line; at = at; over = false }))
taken_turn m line None = turned_to m (next.On (record { line = line; at = place 0; over = true }))

-- ---- FOR

-- an older loop of the variable is dropped with all above it
abbrev pub dropped_to : State → Option ℕ → State
dropped_to m (Some i) = with_depth m i
dropped_to m None = m

-- the variable is set, an older loop of it is dropped, then the body is skipped or a record is made
abbrev pub loop_turn : State → Telling → ℕ → ℕ → ℕ → Position → Option ℕ → Next → Turn
loop_turn m name from limit step back f skip =
    let set = number_set m name from in
    let under = dropped_to set.state f in
    cond set.ok
    (cond (passed from limit step) (turned_to under skip) (pushed_turn under (loop_record set.slot limit step back) (next.On back)))
    (turned_to set.state (next.Fails OutOfMemory))

-- ---- NEXT

-- the number at an entry of the table
abbrev pub word_in : List ℕ → ℕ → ℕ
word_in words slot = cond (ltb slot most_variables) (get_or words slot 0) 0

-- and another there, where it is the entry of one of so many variables
abbrev pub words_set : ℕ → List ℕ → ℕ → ℕ → List ℕ
words_set numbers words slot w = cond (ltb slot numbers) (cond (ltb slot most_variables) (set words slot w) words) words

abbrev pub with_word : Numbers → ℕ → ℕ → Numbers
with_word n slot w = numbers_of n.names (words_set n.count n.words slot w) n.count

abbrev pub word_set : State → ℕ → ℕ → State
word_set m slot w = with_tables m (record { numbers = with_word m.tables.numbers slot w; strings = m.tables.strings }) m.used

-- a test that no GOSUB's record passes, and no WHILE's
abbrev pub LoopsOnly : (spec.Record → Bool) → Type 0
LoopsOnly test = (p : spec.Position) → (test (spec.call p) ≡ false) × (test (spec.again p) ≡ false)

-- the step of a FOR, from STEP on, if it stands; it is 1 if left out
abbrev pub step_of : List ℕ → Scanned → Reading
step_of s t = choose (is_keyword Step t.token) (λ _. formula_of s (after s t)) (λ _. good (number 1) t)

-- a FOR that reads from what follows its limit on
pub record Stepped (line : List ℕ) (t : Scanned) : Type 0 where
  pub short : length line ≤ longest_line
  pub step : Formula
  pub end : Scanned
  pub reads : step_of line t ≡ good step end
  pub shallow : depth_of step ≤ deepest_nesting

-- and from its limit on
pub record Limited (line : List ℕ) (first : Scanned) : Type 0 where
  pub scans : Scans line first
  pub limit : Formula
  pub at : Scanned
  pub reads : formula_of line first ≡ good limit at
  pub shallow : depth_of limit ≤ deepest_nesting
  pub steps : Stepped line at

-- a FOR that reads from its equals sign on
pub record Counts (line : List ℕ) (name : Name) (equals : Scanned) : Type 0 where
  pub short : length line ≤ longest_line
  pub scans : Scans line equals
  pub start : Formula
  pub limit : Formula
  pub step : Formula
  pub end : Scanned
  pub is : for_at line (variable_of line name) equals ≡ done (tree.for (variable_of line name) start limit step) end
  pub shallow : deepest (formulas_of (tree.for (variable_of line name) start limit step)) ≤ deepest_nesting
