-- Bridge: what the code of a statement is asked, and what it leaves, beside what the definition says.
-- The contracts of functions that crates use among themselves cite it; no demand and no promise of run, check_recipe or ask rests on it.
use Rattle.std.specs.Prelude.{◌≡◌, Bool, true, false, cond, not, List, ℕ, ◌+◌, ◌≤◌, ◌<◌, leb, length, set, drop, None, Ok, Option, Some, Result}
use Rattle.whole.specs.declared.errors.Error.TheVariants.{OutOfMemory}
use Rattle.words.specs.Names.{Telling}
use Rattle.words.specs.declared.places.Place.{Place}
use Rattle.words.specs.declared.symbols.Scanned.{Scanned}
use Rattle.words.specs.declared.symbols.Sign.TheVariants.{Colon}
use Rattle.words.specs.Places.{longest_line}
use Rattle.loader.specs.Loading.{load_of}
use Rattle.grammar.specs.Tests.{is_symbol}
use Rattle.grammar.specs.Trees.{Formula}
use Rattle.grammar.specs.Formulas.{formula_of}
use Rattle.expressions.specs.Types.{deepest_nesting}
use Rattle.variables.specs.Strings.{Room}
use Rattle.operators.specs.Values.{value_of}
use Rattle.formulas.specs.bridge.Memory.{Scans, Reads}
use Rattle.variables.specs.bridge.Memory.{Held, Agrees, Framed, GoesOn, NumberStored, StringStored, number_stored, string_stored}
use Rattle.variables.specs.declared.tables.Tables.{Tables}
use Rattle.variables.specs.declared.values.Worked.{Worked}
use Rattle.machine.specs.Machine as spec
use Rattle.machine.specs.Order.{Stand, past}
use Rattle.machine.specs.bridge.Holding.{lines_at, body_of, Begins, Positioned, position_of, blank_record, State, state_of, variables_of, Sound, Same}
use Rattle.machine.specs.declared.state.Feed.{Feed}
use Rattle.machine.specs.declared.state.Machine.{Machine}
use Rattle.machine.specs.declared.state.Printer.{Printer}
use Rattle.machine.specs.declared.positions.Position.{Position}
use Rattle.machine.specs.declared.positions.Turned.{Turned}
use Rattle.machine.specs.declared.positions.Next.{Next}
use Rattle.machine.specs.declared.positions.Next.TheVariants as next
use Rattle.machine.specs.declared.records.Record.{Record}
use Rattle.machine.specs.Machine.{most_records}
use Rattle.turns.specs.Steps as step
use Rattle.turns.specs.Steps.{goes_on, enters, ends, stops, fails}
use Rattle.whole.specs.declared.errors.Error.{Error}

-- ---- a turn of the code's machine, with the tables that are lent beside it

-- what a statement leaves: the machine and the tables, where the run goes on, and the record that it writes
pub record Turn : Type 0 where
  pub state : State
  pub next : Next
  pub slot : ℕ
  pub held : Record

abbrev pub turn_of : Turned → Tables → Turn
turn_of r tables =
    record { state = state_of r.machine tables; next = r.next; slot = r.slot; held = r.held }

-- a statement that writes no record: what the code answers, and the turn
abbrev pub came_to : Machine → Next → Turned
came_to m n = record { machine = m; next = n; slot = most_records; held = blank_record }

abbrev pub turned_to : State → Next → Turn
turned_to m n = record { state = m; next = n; slot = most_records; held = blank_record }

-- where the run goes on after a statement of a line that this token follows
abbrev pub after_of : Place → Scanned → Position
after_of line ahead = record { line = line; at = ahead.next; over = not (is_symbol Colon ahead.token) }

-- it goes on where the definition does, and the machine then is the definition's
abbrev pub Comes : List ℕ → Next → step.Next → (spec.Machine → Type 0) → Type 0
Comes text (next.On q) (goes_on n p) same = Positioned text q × ((position_of text q ≡ p) × same n)
Comes text (next.On q) (enters n ls) same = ⊥
Comes text (next.On q) (ends n) same = ⊥
Comes text (next.On q) (stops n) same = ⊥
Comes text (next.On q) (fails f n) same = ⊥
Comes text (next.Enter l) (goes_on n p) same = ⊥
Comes text (next.Enter l) (enters n ls) same = Begins text l.0 × ((lines_at text l.0 ≡ ls) × same n)
Comes text (next.Enter l) (ends n) same = ⊥
Comes text (next.Enter l) (stops n) same = ⊥
Comes text (next.Enter l) (fails f n) same = ⊥
Comes text next.Ends (goes_on n p) same = ⊥
Comes text next.Ends (enters n ls) same = ⊥
Comes text next.Ends (ends n) same = same n
Comes text next.Ends (stops n) same = ⊥
Comes text next.Ends (fails f n) same = ⊥
Comes text next.Stops (goes_on n p) same = ⊥
Comes text next.Stops (enters n ls) same = ⊥
Comes text next.Stops (ends n) same = ⊥
Comes text next.Stops (stops n) same = same n
Comes text next.Stops (fails f n) same = ⊥
Comes text (next.Fails e) (goes_on n p) same = ⊥
Comes text (next.Fails e) (enters n ls) same = ⊥
Comes text (next.Fails e) (ends n) same = ⊥
Comes text (next.Fails e) (stops n) same = ⊥
Comes text (next.Fails e) (fails f n) same = (e ≡ f) × same n

-- a step of the definition that comes to what is done next with a machine that the code's holds
pub record Leads (text : List ℕ) (rs : List Record) (m : State) (input space room : List ℕ) (x : step.Next) (go : spec.Machine → step.Next) : Type 0 where
  pub machine : spec.Machine
  pub is : x ≡ go machine
  pub same : Same text rs m input space room machine

-- the memory that is lent, after a statement
pub record Leaves (m : State) (input space room : List ℕ) (r : Turn) (space' room' : List ℕ) : Type 0 where
  pub sound : Sound r.state input space' room'
  pub space_long : length space' ≡ length space
  pub room_long : length room' ≡ length room
  pub steps : r.state.steps ≡ m.steps
  pub more : m.printer.written ≤ r.state.printer.written
  -- output beyond the bytes written is unchanged
  pub beyond : drop r.state.printer.written room' ≡ drop r.state.printer.written room

-- it does what the definition does, whatever records there are that meet what it was told of them
pub record Turns (text : List ℕ) (m : State) (input space room : List ℕ) (told : List Record → Type 0) (does : spec.Machine → step.Next) (r : Turn) (space' room' : List ℕ) : Type 0 where
  pub leaves : Leaves m input space room r space' room'
  pub comes : (rs : List Record) → told rs → (n : spec.Machine) → Same text rs m input space room n
      → Comes text r.next (does n) (Same text (set rs r.slot r.held) r.state input space' room')

-- nothing is told of the records
abbrev pub AnyRecords : List Record → Type 0
AnyRecords rs = Unit {0}

-- a formula that reads from a token of the line on
pub record Formed (line : List ℕ) (first : Scanned) : Type 0 where
  pub short : length line ≤ longest_line
  pub scans : Scans line first
  pub reads : Reads deepest_nesting (formula_of line first)

-- what working out a formula with the machine's tables leaves
pub record Valued (m : State) (f : Formula) (u : Scanned) (before : List ℕ) (r : Result Worked Error) (after : List ℕ) : Type 0 where
  pub framed : Framed before m.used r after
  pub agrees : (room : Room) → Held room before m.used → Agrees r after m.used (value_of f (variables_of m before) room)
  pub goes : GoesOn r u

-- the line of a text that loads and begins at a place, after its number
pub record Standing (text line : List ℕ) (here : Place) : Type 0 where
  pub loads : load_of text ≡ Ok tt
  pub short : length line ≤ longest_line
  pub begins : Begins text here.0
  pub is : line ≡ body_of (lines_at text here.0)

-- a record that was found is one of so many
abbrev pub FoundBelow : ℕ → Option ℕ → Type 0
FoundBelow depth (Some i) = i < depth
FoundBelow depth None = Unit {0}

-- ---- one part of the machine anew

abbrev pub with_tables : State → Tables → ℕ → State
with_tables m t used =
    record { tables = t; used = used; printer = m.printer; taken = m.taken; feed = m.feed; steps = m.steps; depth = m.depth; records = m.records }

abbrev pub with_printer : State → Printer → State
with_printer m p =
    record { tables = m.tables; used = m.used; printer = p; taken = m.taken; feed = m.feed; steps = m.steps; depth = m.depth; records = m.records }

abbrev pub with_taken : State → ℕ → State
with_taken m n =
    record { tables = m.tables; used = m.used; printer = m.printer; taken = n; feed = m.feed; steps = m.steps; depth = m.depth; records = m.records }

abbrev pub with_feed : State → Feed → State
with_feed m f =
    record { tables = m.tables; used = m.used; printer = m.printer; taken = m.taken; feed = f; steps = m.steps; depth = m.depth; records = m.records }

abbrev pub with_depth : State → ℕ → State
with_depth m d =
    record { tables = m.tables; used = m.used; printer = m.printer; taken = m.taken; feed = m.feed; steps = m.steps; depth = d; records = m.records }

-- a variable is set, at an entry, or there is no room for it
pub record Storage : Type 0 where
  pub ok : Bool
  pub slot : ℕ
  pub state : State

-- by the machine before, and the one after, if there was room: then a string's; without room the machine is as it was
abbrev pub storage_of : Machine → Option Machine → Tables → Storage
storage_of m (Some n) tables = record { ok = true; slot = 0; state = state_of n tables }
storage_of m None tables = record { ok = false; slot = 0; state = state_of m tables }

abbrev pub number_kept : State → NumberStored → Storage
number_kept m s =
    record { ok = s.ok; slot = s.slot; state = with_tables m (record { numbers = s.numbers; strings = m.tables.strings }) m.used }

abbrev pub number_set : State → Telling → ℕ → Storage
number_set m name w = number_kept m (number_stored m.tables.numbers name w)

abbrev pub string_kept : State → StringStored → Storage
string_kept m s =
    record { ok = s.ok; slot = 0; state = with_tables m (record { numbers = m.tables.numbers; strings = s.strings }) s.used }

abbrev pub string_set : State → Telling → ℕ → Storage
string_set m name len = string_kept m (string_stored m.tables.strings m.used name len)

-- room for a new variable is tested last: what the code answers, and the turn
abbrev pub stored_as : Machine → Option Machine → Place → Scanned → Turned
stored_as m (Some n) line ahead = came_to n (next.On (after_of line ahead))
stored_as m None line ahead = came_to m (next.Fails OutOfMemory)

abbrev pub stored_turn : Storage → Place → Scanned → Turn
stored_turn s line ahead =
    cond s.ok (turned_to s.state (next.On (after_of line ahead))) (turned_to s.state (next.Fails OutOfMemory))

-- ---- a record more

-- written above the others, if there is room
abbrev pub pushed_turn : State → Record → Next → Turn
pushed_turn m held n =
    cond (leb m.records m.depth) (turned_to m (next.Fails OutOfMemory))
    (record { state = with_depth m (m.depth + 1); next = n; slot = m.depth; held = held })

-- ---- on after a statement of the text

pub record GoesPast (text : List ℕ) (r : Next) (x : Stand) : Type 0 where
  pub to : Position
  pub is : r ≡ next.On to
  pub placed : Positioned text to
  pub there : position_of text to ≡ past x
