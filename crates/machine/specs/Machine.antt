-- The machine: what a run has, and where it stands.
use Rattle.std.specs.Prelude.{Bool, true, false, cond, List, [], ◌∷◌, ◌++◌, ℕ, suc, ◌+◌, ◌-◌, ◌%◌, ltb, eqb, pos, length, replicate}
use Rattle.std.specs.Int.Signed.{lt_z}
use Rattle.whole.specs.Whole.{num}
use Rattle.words.specs.Names.{Telling, alike}
use Rattle.whole.specs.Bytes.{blank}
use Rattle.loader.specs.Lines.{Line}
use Rattle.statements.specs.Parts.{Rest}
use Rattle.variables.specs.Strings.{Room}
use Rattle.variables.specs.Variables.{Variables, string_bytes}

-- a place to come back to: the current line and those after it, and what is left of the part
pub record Position : Type 0 where
  pub lines : List Line
  pub rest : Rest

-- what FOR, GOSUB and WHILE leave, the topmost first; a WHILE's comes back to the WHILE itself
pub data Record : Type 0 where
  loop : Telling → ℕ → ℕ → Position → Record
  call : Position → Record
  again : Position → Record

pub record Machine : Type 0 where
  pub variables : Variables
  -- the records, and how many there can be
  pub records : List Record
  pub record_room : ℕ
  -- bytes since the last byte 10
  pub column : ℕ
  -- what was printed, and how many bytes there is room for
  pub output : List ℕ
  pub output_room : ℕ
  -- what is left of the input, and how many bytes were taken
  pub input : List ℕ
  pub taken : ℕ
  -- the items of DATA that are left, by their bytes
  pub items : List (List ℕ)
  pub steps : ℕ
  -- the bytes of the string space, and the most unfinished strings that there ever were
  pub space : ℕ
  pub highest : ℕ

-- what a run is lent: how many bytes of string space, how many of room for output, and how many records
pub record Lent : Type 0 where
  pub space : ℕ
  pub room : ℕ
  pub records : ℕ

abbrev pub lent_by : List ℕ → List ℕ → ℕ → Lent
lent_by space room records = record { space = length space; room = length room; records = records }

-- every variable unset, both tables empty, column 0, and some items of DATA
abbrev pub fresh_with : List (List ℕ) → List ℕ → Lent → Machine
fresh_with items input lent = record {
  variables = record { numbers = []; strings = [] };
  records = [];
  record_room = lent.records;
  column = 0;
  output = [];
  output_room = lent.room;
  input = input;
  taken = 0;
  items = items;
  steps = 0;
  space = lent.space;
  highest = 0;
}

-- the most records that may be lent
abbrev pub most_records : ℕ
most_records = 256

-- a line of input has at most 254 bytes, its end not counted
abbrev pub longest_input_line : ℕ
longest_input_line = 254

-- the room that a statement begins with: the variables alone are live
abbrev pub room_of : Machine → Room
room_of m = record { limit = m.space; live = string_bytes m.variables.strings; unfinished = 0; highest = m.highest }

-- ---- one part of the machine anew

abbrev pub with_variables : Machine → Variables → Machine
with_variables m v = record { variables = v; records = m.records; record_room = m.record_room; column = m.column; output = m.output; output_room = m.output_room; input = m.input; taken = m.taken; items = m.items; steps = m.steps; space = m.space; highest = m.highest }

abbrev pub with_records : Machine → List Record → Machine
with_records m r = record { variables = m.variables; records = r; record_room = m.record_room; column = m.column; output = m.output; output_room = m.output_room; input = m.input; taken = m.taken; items = m.items; steps = m.steps; space = m.space; highest = m.highest }

abbrev pub with_output : Machine → List ℕ → ℕ → Machine
with_output m out col = record { variables = m.variables; records = m.records; record_room = m.record_room; column = col; output = out; output_room = m.output_room; input = m.input; taken = m.taken; items = m.items; steps = m.steps; space = m.space; highest = m.highest }

abbrev pub with_input : Machine → List ℕ → ℕ → Machine
with_input m inp n = record { variables = m.variables; records = m.records; record_room = m.record_room; column = m.column; output = m.output; output_room = m.output_room; input = inp; taken = n; items = m.items; steps = m.steps; space = m.space; highest = m.highest }

abbrev pub with_items : Machine → List (List ℕ) → Machine
with_items m l = record { variables = m.variables; records = m.records; record_room = m.record_room; column = m.column; output = m.output; output_room = m.output_room; input = m.input; taken = m.taken; items = l; steps = m.steps; space = m.space; highest = m.highest }

abbrev pub with_step : Machine → Machine
with_step m = record { variables = m.variables; records = m.records; record_room = m.record_room; column = m.column; output = m.output; output_room = m.output_room; input = m.input; taken = m.taken; items = m.items; steps = suc m.steps; space = m.space; highest = m.highest }

-- what was worked out may have had more unfinished strings than ever before
abbrev pub noting : Machine → Room → Machine
noting m room = record { variables = m.variables; records = m.records; record_room = m.record_room; column = m.column; output = m.output; output_room = m.output_room; input = m.input; taken = m.taken; items = m.items; steps = m.steps; space = m.space; highest = room.highest }

-- ---- printing

-- the column after some bytes: how many there are since the last byte 10
unfoldable pub column_after : ℕ → List ℕ → ℕ
column_after c [] = c
column_after c (b ∷ s) = column_after (cond (eqb b 10) 0 (suc c)) s

pub data Printed : Type 0 where
  full : Printed
  printed : Machine → Printed

-- if one item, comma or line end has no room, none of it is written
unfoldable pub write : Machine → List ℕ → Printed
write m bytes =
    cond (ltb m.output_room (length m.output + length bytes)) full
    (printed (with_output m (m.output ++ bytes) (column_after m.column bytes)))

-- a comma gives 14 minus (column mod 14) blanks
abbrev pub comma_blanks : Machine → List ℕ
comma_blanks m = replicate (14 - m.column % 14) blank

-- ---- records

-- a GOSUB's, a loop's, and that of a variable's loop
abbrev pub is_call : Record → Bool
is_call (loop v limit step p) = false
is_call (call p) = true
is_call (again p) = false

abbrev pub is_loop : Record → Bool
is_loop (loop v limit step p) = true
is_loop (call p) = false
is_loop (again p) = false

abbrev pub is_loop_of : Telling → Record → Bool
is_loop_of name (loop v limit step p) = alike v name
is_loop_of name (call p) = false
is_loop_of name (again p) = false

-- where the run goes on after it
abbrev pub back_of : Record → Position
back_of (loop v limit step p) = p
back_of (call p) = p
back_of (again p) = p

-- the record that was looked for, and those under it
pub data Search : Type 0 where
  missing : Search
  found : Record → List Record → Search

-- the topmost record that passes the test; none below the nearest GOSUB's is looked at
unfoldable pub sought : (Record → Bool) → List Record → Search
sought test [] = missing
sought test (r ∷ rs) = cond (test r) (found r rs) (cond (is_call r) missing (sought test rs))

-- what is left where it is dropped with all above it
abbrev pub below : List Record → Search → List Record
below rs missing = rs
below rs (found r under) = under

-- ---- loops

-- the limit is passed in the step's direction; step 0 never passes
unfoldable pub passed : ℕ → ℕ → ℕ → Bool
passed w limit step =
    cond (lt_z (num step) (pos 0)) (lt_z (num w) (num limit)) (cond (eqb step 0) false (lt_z (num limit) (num w)))
