-- Error 7 for records (document 02, M-108): it comes exactly when all records that are lent are taken. A statement has the proof of its name, in
-- snake case, in `proofs/Seven.antt`.
use Rattle.std.specs.Prelude.{◌≡◌, true, false, List, ◌∷◌, ◌↔◌, ℕ, ◌≤◌, length, Ok}
use Rattle.whole.specs.declared.errors.Error.TheVariants.{OutOfMemory}
use Rattle.words.specs.Places.{line_number}
use Rattle.words.specs.declared.places.LineNumber.{LineNumber}
use Rattle.loader.specs.Lines.{Line, lines_of, from_number}
use Rattle.loader.specs.Loading.{load_of}
use Rattle.grammar.specs.Trees as tree
use Rattle.grammar.specs.Trees.{Formula, Variable, Statement, Part}
use Rattle.statements.specs.Parts.{Rest}
use Rattle.variables.specs.Strings.{Room, whole, value, longest_space}
use Rattle.variables.specs.Variables.{numbers_full}
use Rattle.operators.specs.Values.{value_of}
use Rattle.machine.specs.Items.{fresh}
use Rattle.machine.specs.Machine.{Machine, Lent, most_records, room_of, noting, missing, sought, passed}
use Rattle.machine.specs.Order.{Stand, some, wend_for}
use Rattle.machine.specs.Repeats.{start_of, is_while}
use Rattle.turns.specs.Steps.{fails, is_whole_kind, with_number, cleared, do_statement}
use Rattle.runner.specs.Run as standing
use Rattle.runner.specs.Run.{line_number_of, entering, number_in, line_in}
use Rattle.promises.specs.Calls.{RunCall, text_of, input_of, lent_of, budget_of}
use Rattle.promises.specs.Passing.{stands_after}
use Rattle.promises.specs.StringSpace.{Begins}

-- all records that there can be are taken
abbrev pub AllTaken : Machine → Type 0
AllTaken m = m.record_room ≤ length m.records

-- what a formula comes to, and the machine that has noted it
pub record WorksOut (f : Formula) (m : Machine) (w : ℕ) (n : Machine) : Type 0 where
  pub room : Room
  pub is : value_of f m.variables (room_of m) ≡ value (whole w) room
  pub noted : n ≡ noting m room

-- a statement at a place of the first of some lines wants a record more, with the machine that wants it
pub data Wants (program : List ℕ) (lines : List Line) (at : ℕ) (m : Machine) : Statement → Machine → Type 0 where
  -- GOSUB, where its line is there
  call : (l : LineNumber) (x : Line) (xs : List Line) → from_number l.0 (lines_of program) ≡ x ∷ xs → Wants program lines at m (tree.gosub l) m
  -- FOR, where its start is not past its limit: the variable is stored, and an older loop of it dropped
  loop : (v : Variable) (from to by : Formula) (start limit step : ℕ) (m₁ m₂ m₃ : Machine) → is_whole_kind v.kind ≡ true → WorksOut from m start m₁
      → WorksOut to m₁ limit m₂ → WorksOut by m₂ step m₃ → numbers_full m₃.variables.numbers v.telling ≡ false → passed start limit step ≡ false
      → Wants program lines at m (tree.for v from to by) (cleared v.telling (with_number m₃ v.telling start))
  -- WHILE, where its condition is true and it has no record above the nearest GOSUB's
  again : (c : Formula) (wend : Stand) (w : ℕ) (n : Machine) → wend_for at lines ≡ some wend → WorksOut c m w n → (w ≡ 0 → ⊥)
      → sought (is_while (start_of lines) at) n.records ≡ missing → Wants program lines at m (tree.while c) n

-- A statement that wants a record ends the run in 7 if and only if all are taken. It says nothing of 7 for variables, which comes where there are
-- 64 of a kind. Ruled out: a machine that keeps one record back; one that tells a WHILE whose own record is there that there is no room.
abbrev pub SevenExactly : Type 0
SevenExactly =
    (program : List ℕ) (lines : List Line) (rest : Rest) (at : ℕ) (m : Machine) (x : Statement) (asking : Machine) → Wants program lines at m x asking
    → (do_statement program at x m (record { lines = lines; rest = rest }) ≡ fails OutOfMemory asking) ↔ AllTaken asking

-- a run that is not refused begins a statement of a line that wants a record more when all are taken
pub record LacksRecord (text input : List ℕ) (lent : Lent) (budget : ℕ) (l : LineNumber) : Type 0 where
  pub small : lent.space ≤ longest_space
  pub few : lent.records ≤ most_records
  pub loads : load_of text ≡ Ok tt
  pub from : List Line
  pub numbered : line_number_of from ≡ l
  pub place : ℕ
  pub statement : Statement
  pub machine : Machine
  pub begins : Begins text budget (entering (fresh text input lent) (lines_of text)) from place statement machine
  pub asking : Machine
  pub wants : Wants text from place machine statement asking
  pub taken : AllTaken asking

-- A run that begins such a statement ends there, in 7. So 7 comes where no record is left, and, by `RecordsWithinLent`, just as many are taken as are lent. Ruled out: a run that overwrites its oldest record; one that goes on without one.
abbrev pub LackedRecordsEnd : Type 0
LackedRecordsEnd =
    (c : RunCall) (line : ℕ) → LacksRecord (text_of c) (input_of c) (lent_of c) (budget_of c) (line_number line)
    → (number_in c.answer.outcome ≡ 7) × (line_in c.answer.outcome ≡ line)

-- After however many statements of a run, a machine has room for just the records that are lent, and no more of them. Ruled out: a definition whose
-- FOR makes a record without a look at the others.
abbrev pub RecordsWithinLent : Type 0
RecordsWithinLent =
    (text input : List ℕ) (lent : Lent) (statements : ℕ) (m : Machine) (lines : List Line) (p : Part)
    → stands_after statements text (entering (fresh text input lent) (lines_of text)) ≡ standing.at m lines p
    → (m.record_room ≡ lent.records) × (length m.records ≤ lent.records)
