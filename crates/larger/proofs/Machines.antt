-- A machine and the same machine with a larger space: what is needed of the first, what a statement comes to on both, and working out a formula
-- without FRE.
use mathlib.Core.Path.{◌≡◌}
use mathlib.Core.Bool.{Bool, true, false, cond}
use mathlib.Core.List.{List}
use Prim.Native.Nat.{ℕ, ◌≤◌}
use Rattle.whole.specs.declared.errors.Error.{Error}
use Rattle.whole.specs.declared.errors.Error.TheVariants.{OutOfStringSpace}
use Rattle.loader.specs.Lines.{Line}
use Rattle.grammar.specs.Trees.{Formula, Statement}
use Rattle.statements.specs.Parts.{formulas_of}
use Rattle.variables.specs.Strings.{Value, whole, text, Outcome}
use Rattle.operators.specs.Values.{value_of}
use Rattle.machine.specs.Machine.{Position, Record, Machine, room_of, with_records}
use Rattle.order.proofs.Laws.{Every, LinesThroughout}
use Rattle.turns.specs.Steps.{Next, goes_on, enters, ends, stops, fails, worked, whole_only, worked_whole}
use Rattle.laws.specs.Laws.{without_fre}
use Rattle.laws.proofs.Rooms.{values, faults, on_left}
use Rattle.laws.proofs.Positions.{PositionThroughout, RecordThroughout}
use Rattle.promises.proofs.Records as records
use Rattle.larger.proofs.Rooms.{SameOrLacks, same_in_wider}

-- ---- statements without FRE

abbrev pub FreeFormula : Formula → Type 0
FreeFormula f = without_fre f ≡ true

abbrev pub FreeStatement : Statement → Type 0
FreeStatement x = Every FreeFormula (formulas_of x)

abbrev pub FreeLines : List Line → Type 0
FreeLines ls = LinesThroughout FreeStatement ls

abbrev pub FreePosition : Position → Type 0
FreePosition p = PositionThroughout FreeStatement p

abbrev pub FreeRecord : Record → Type 0
FreeRecord r = RecordThroughout FreeStatement r

-- ---- a machine with another space

abbrev pub widened : ℕ → Machine → Machine
widened k m = record { variables = m.variables; records = m.records; record_room = m.record_room; column = m.column; output = m.output; output_room = m.output_room; input = m.input; taken = m.taken; items = m.items; steps = m.steps; space = k; highest = m.highest }

-- what is needed of the first: its space is not larger, and its records come back to statements without FRE
pub record Apt (k : ℕ) (m : Machine) : Type 0 where
  pub small : m.space ≤ k
  pub held : records.Each FreeRecord m.records

-- what a statement comes to on both
pub data Same (k : ℕ) : Next → Next → Type 0 where
  onward : {m : Machine} {p : Position} → Apt k m → FreePosition p → Same k (goes_on m p) (goes_on (widened k m) p)
  entered : {m : Machine} {ls : List Line} → Apt k m → FreeLines ls → Same k (enters m ls) (enters (widened k m) ls)
  ended : {m : Machine} → Same k (ends m) (ends (widened k m))
  stopped : {m : Machine} → Same k (stops m) (stops (widened k m))
  failed : {e : Error} {m : Machine} → Same k (fails e m) (fails e (widened k m))
  lacked : {m : Machine} {x : Next} → Same k (fails OutOfStringSpace m) x

-- what comes next, on both
abbrev pub Alike : ℕ → (Machine → Next) → Type 0
Alike k go = (n : Machine) → Apt k n → Same k (go n) (go (widened k n))

module _ {k : ℕ} where
  pub either_same : (t : Bool) {x y x' y' : Next} → Same k x x' → Same k y y' → Same k (cond t x y) (cond t x' y')
  either_same true h g = h
  either_same false h g = g

  pub apt_records : {m : Machine} (rs : List Record) → Apt k m → records.Each FreeRecord rs → Apt k (with_records m rs)
  apt_records rs s h = record { small = s.small; held = h }

  -- ---- working out

  pub worked_same : {m : Machine} {o p : Outcome} (go : Value → Machine → Next) → Apt k m → SameOrLacks k o p
      → ((v : Value) → Alike k (go v)) → Same k (worked m o go) (worked (widened k m) p go)
  worked_same go s (values v n) h = rw n.is (h v _ (record { small = s.small; held = s.held }))
  worked_same go s (faults n) h = rw n.is failed
  worked_same go s (on_left e) h = rw e lacked
  worked_same {m = m} {o = o} go s (Rattle.laws.proofs.Rooms.on_right {e = e} {r = r} x5) h = elim x5 [ ]

  pub formula_same : (f : Formula) (m : Machine) (go : Value → Machine → Next) → FreeFormula f → Apt k m → ((v : Value) → Alike k (go v))
      → Same k (worked m (value_of f m.variables (room_of m)) go)
      (worked (widened k m) (value_of f m.variables (room_of (widened k m))) go)
  formula_same f m go x s h = worked_same go s (same_in_wider k f m.variables x (room_of m) s.small) h

  pub whole_same : (f : Formula) (m : Machine) (go : ℕ → Machine → Next) → FreeFormula f → Apt k m → ((w : ℕ) → Alike k (go w))
      → Same k (worked_whole f m go) (worked_whole f (widened k m) go)
  whole_same f m go x s h = formula_same f m (λ v n. whole_only v n (λ w. go w n)) x s by_value
    where
      by_value : (v : Value) → Alike k (λ n. whole_only v n (λ w. go w n))
      by_value (whole w) n t = h w n t
      by_value (text b) n t = failed
