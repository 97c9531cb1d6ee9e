-- What each statement does, in the order of the paper's tests. `after` is where the run goes on after the statement.
use Rattle.std.specs.Prelude.{Bool, true, false, cond, not, List, [], ◌∷◌, ℕ, ◌+◌, ◌-◌, ltb, leb, eqb, length, drop, Err, Ok, Result}
use Rattle.whole.specs.Digits.{number_item}
use Rattle.whole.specs.Texts as texts
use Rattle.whole.specs.Whole.{applied}
use Rattle.whole.specs.declared.arithmetic.Operator.TheVariants.{Add}
use Rattle.whole.specs.declared.errors.Error.{Error}
use Rattle.whole.specs.declared.errors.Error.TheVariants.{
  NextWithoutFor,
  ReturnWithoutGosub,
  OutOfData,
  OutOfMemory,
  UndefinedLine,
  TypeMismatch,
  LineBufferOverflow,
  ForWithoutNext,
  WhileWithoutWend,
  WendWithoutWhile,
  InputPastEnd,
  OutputFull,
}
use Rattle.words.specs.Names.{Telling, alike}
use Rattle.words.specs.declared.names.Kind.{Kind}
use Rattle.words.specs.declared.names.Kind.TheVariants as kind
use Rattle.loader.specs.Lines.{Line, lines_of, lines_from, from_number}
use Rattle.grammar.specs.Trees as tree
use Rattle.grammar.specs.Trees.{Formula, Variable, Item, Statement, Part}
use Rattle.variables.specs.Strings.{Value, whole, text, Outcome, value, fault, make}
use Rattle.variables.specs.Variables.{word_of, set_number, set_string, numbers_full, strings_full}
use Rattle.operators.specs.Values.{value_of}
use Rattle.machine.specs.Machine.{Position, Record, loop, call, again, Machine, room_of, with_variables, with_records, with_input, with_items, noting, Printed, full, printed, write, comma_blanks, is_call, is_loop, is_loop_of, back_of, Search, missing, found, sought, below, passed, longest_input_line}
use Rattle.machine.specs.Order.{Stand, stands, Partner, none, some, past, next_for, wend_for}
use Rattle.machine.specs.Items.{items_of, items_of_text}
use Rattle.machine.specs.Repeats.{start_of, is_while, is_while_of}
use Rattle.statements.specs.Parts.{Rest, nothing, part, head_of}

-- what a statement comes to: the run goes on at a place, or at a line's start, or it ends
pub data Next : Type 0 where
  goes_on : Machine → Position → Next
  enters : Machine → List Line → Next
  ends : Machine → Next
  stops : Machine → Next
  fails : Error → Machine → Next

-- ---- working out: the machine notes the most unfinished strings, whatever comes of it

abbrev pub worked : Machine → Outcome → (Value → Machine → Next) → Next
worked m (value v room) go = go v (noting m room)
worked m (fault e room) go = fails e (noting m room)

abbrev pub whole_only : Value → Machine → (ℕ → Next) → Next
whole_only (whole w) m go = go w
whole_only (text b) m go = fails TypeMismatch m

abbrev pub worked_whole : Formula → Machine → (ℕ → Machine → Next) → Next
worked_whole f m go = worked m (value_of f m.variables (room_of m)) (λ v n. whole_only v n (λ w. go w n))

abbrev pub is_whole_kind : Kind → Bool
is_whole_kind kind.Whole = true
is_whole_kind kind.Text = false

-- ---- assignment: the type is tested after the formula, then room for a new variable

abbrev pub with_number : Machine → Telling → ℕ → Machine
with_number m name w = with_variables m (record { numbers = set_number m.variables.numbers name w; strings = m.variables.strings })

abbrev pub with_string : Machine → Telling → List ℕ → Machine
with_string m name b = with_variables m (record { numbers = m.variables.numbers; strings = set_string m.variables.strings name b })

-- a new variable has no room where there are 64 of its kind
abbrev pub store_number : Machine → Telling → ℕ → (Machine → Next) → Next
store_number m name w go = cond (numbers_full m.variables.numbers name) (fails OutOfMemory m) (go (with_number m name w))

abbrev pub store_string : Machine → Telling → List ℕ → (Machine → Next) → Next
store_string m name b go = cond (strings_full m.variables.strings name) (fails OutOfMemory m) (go (with_string m name b))

abbrev pub assigned : Kind → Telling → Value → Machine → (Machine → Next) → Next
assigned kind.Whole name (whole w) m go = store_number m name w go
assigned kind.Whole name (text b) m go = fails TypeMismatch m
assigned kind.Text name (whole w) m go = fails TypeMismatch m
assigned kind.Text name (text b) m go = store_string m name b go

-- ---- PRINT: items are worked out, printed and let go one by one

abbrev pub written : Machine → List ℕ → (Machine → Next) → Next
written m bytes go = by_printed (write m bytes)
  where
    by_printed : Printed → Next
    by_printed full = fails OutputFull m
    by_printed (printed n) = go n

abbrev pub shown_value : Value → List ℕ
shown_value (whole w) = texts.printed_number w
shown_value (text b) = b

-- without a final `,` or `;` it ends with bytes 13, 10
unfoldable pub print_items : Bool → List Item → Machine → (Machine → Next) → Next
print_items quiet [] m go = cond quiet (go m) (written m (13 ∷ 10 ∷ []) go)
print_items quiet (tree.comma ∷ is) m go = written m (comma_blanks m) (λ n. print_items true is n go)
print_items quiet (tree.semicolon ∷ is) m go = print_items true is m go
print_items quiet (tree.shown f ∷ is) m go =
    worked m (value_of f m.variables (room_of m)) (λ v n. written n (shown_value v) (λ o. print_items false is o go))

-- ---- jumps

-- the lines from the one with the number on; a missing line is 8
abbrev pub to_line : Machine → List Line → (List Line → Next) → Next
to_line m [] go = fails UndefinedLine m
to_line m (l ∷ ls) go = go (l ∷ ls)

-- a record more, if there is room
abbrev pub pushed : Machine → Record → (Machine → Next) → Next
pushed m r go = cond (leb m.record_room (length m.records)) (fails OutOfMemory m) (go (with_records m (r ∷ m.records)))

-- RETURN drops records through the nearest GOSUB's and goes on after it
abbrev pub returned : Machine → Search → Next
returned m missing = fails ReturnWithoutGosub m
returned m (found r under) = goes_on (with_records m under) (back_of r)

-- ---- FOR and NEXT

-- an older loop of the variable is dropped with all above it
abbrev pub cleared : Telling → Machine → Machine
cleared name m = with_records m (below m.records (sought (is_loop_of name) m.records))

-- whether a NEXT names another variable than this one; a string is another
abbrev pub names_other : Telling → Statement → Bool
names_other name tree.empty = false
names_other name (tree.assign v f) = false
names_other name (tree.print is) = false
names_other name (tree.if_then c p) = false
names_other name (tree.if_else c p q) = false
names_other name (tree.goto l) = false
names_other name (tree.gosub l) = false
names_other name tree.return = false
names_other name (tree.for v from to by) = false
names_other name tree.next = false
names_other name (tree.next_of v) = cond (is_whole_kind v.kind) (not (alike v.telling name)) true
names_other name (tree.while c) = false
names_other name tree.wend = false
names_other name (tree.line_input t v) = false
names_other name (tree.data_of l) = false
names_other name (tree.read vs) = false
names_other name tree.restore = false
names_other name (tree.restore_to l) = false
names_other name tree.end = false
names_other name tree.stop = false
names_other name tree.remark = false

-- a body is skipped: the run goes on after the loop's NEXT; none is 26, one that names another variable is 1
abbrev pub skipped : Telling → Partner → Machine → Next
skipped name none m = fails ForWithoutNext m
skipped name (some s) m = cond (names_other name (head_of s.part)) (fails NextWithoutFor m) (goes_on m (past s))

-- FOR at a place of its line with its start, limit and step: the variable is stored, and an older loop of it is dropped; then the body is
-- skipped if the start is already past the limit in the step's direction, or a record is made
abbrev pub begun : Telling → ℕ → Position → ℕ → ℕ → ℕ → Machine → Next
begun name at after start limit step m =
    store_number m name start (λ n.
    cond (passed start limit step)
    (skipped name (next_for at after.lines) (cleared name n))
    (pushed (cleared name n) (loop name limit step after) (λ o. goes_on o after)))

-- these are worked out one after another: FOR from its step on, from its limit on, and from its start on
abbrev pub from_step : Telling → ℕ → Position → Formula → ℕ → ℕ → Machine → Next
from_step name at after by start limit m = worked_whole by m (λ w n. begun name at after start limit w n)

abbrev pub from_limit : Telling → ℕ → Position → Formula → Formula → ℕ → Machine → Next
from_limit name at after to by start m = worked_whole to m (λ w n. from_step name at after by start w n)

abbrev pub from_start : Telling → ℕ → Position → Formula → Formula → Formula → Machine → Next
from_start name at after from to by m = worked_whole from m (λ w n. from_limit name at after to by w n)

-- one turn more, or the loop ends; the variable, which its FOR has made, is stored as an assignment stores it
abbrev pub turned : Machine → Telling → ℕ → ℕ → Position → List Record → Position → Result ℕ Error → Next
turned m v limit step back under after (Ok w) =
    store_number m v w (λ n.
    cond (passed w limit step)
    (goes_on (with_records n under) after)
    (goes_on (with_records n (loop v limit step back ∷ under)) back))
turned m v limit step back under after (Err e) = fails e m

-- NEXT takes the loop that was found; it looks for loops alone
abbrev pub next_on : Machine → Search → Position → Next
next_on m missing after = fails NextWithoutFor m
next_on m (found (loop v limit step back) under) after =
    turned m v limit step back under after (applied Add (word_of m.variables.numbers v) step)
next_on m (found (call p) under) after = fails NextWithoutFor m
next_on m (found (again p) under) after = fails NextWithoutFor m

-- ---- WHILE and WEND

-- the part that a statement at a place begins, by what is left after it
abbrev pub part_begun : ℕ → Statement → Rest → Part
part_begun at x nothing = tree.last at x
part_begun at x (part p) = tree.more at x p

-- the position of a WHILE itself
abbrev pub here_of : ℕ → Formula → Position → Position
here_of at c after = record { lines = after.lines; rest = part (part_begun at (tree.while c) after.rest) }

-- a true condition: its own record stays, with those above it dropped, or one is made
abbrev pub repeated : Machine → Search → Position → Position → Next
repeated m missing here after = pushed m (again here) (λ n. goes_on n after)
repeated m (found r under) here after = goes_on (with_records m (r ∷ under)) after

-- a false one drops it with those above it, and goes on after the WEND
abbrev pub tested : Machine → Search → ℕ → Stand → Position → Position → Next
tested m own v w here after = cond (eqb v 0) (goes_on (with_records m (below m.records own)) (past w)) (repeated m own here after)

-- a WHILE at a place, with its WEND; one with none is 29, tested before its condition
abbrev pub while_by : Partner → ℕ → Formula → Machine → Position → Next
while_by none at c m after = fails WhileWithoutWend m
while_by (some w) at c m after =
    worked_whole c m (λ v n. tested n (sought (is_while (start_of after.lines) at) n.records) v w (here_of at c after) after)

-- WEND begins its WHILE again, dropping the records above that one's
abbrev pub turned_back : Machine → Search → Next
turned_back m missing = fails WendWithoutWhile m
turned_back m (found r under) = goes_on (with_records m (r ∷ under)) (back_of r)

-- ---- LINE INPUT: its text is printed, then a line of input is taken

-- the line at the front of some input, and what is left; ends as in loading
pub record Taken : Type 0 where
  pub bytes : List ℕ
  pub left : List ℕ

abbrev pub first_line : List ℕ → List Line → Taken
first_line input [] = record { bytes = []; left = [] }
first_line input (l ∷ ls) = record { bytes = l.bytes; left = drop l.next input }

abbrev pub take_line : List ℕ → Taken
take_line input = first_line input (lines_from 0 input)

abbrev pub filled : Kind → Telling → List ℕ → Machine → (Machine → Next) → Next
filled kind.Whole name b m go = fails TypeMismatch m
filled kind.Text name b m go = store_string m name b go

-- a line of input has at most 254 bytes; it is taken, and then its string asks for room
abbrev pub line_taken : Machine → Variable → Taken → (Machine → Next) → Next
line_taken m v t go =
    cond (ltb longest_input_line (length t.bytes)) (fails LineBufferOverflow m)
    (let n = with_input m t.left (m.taken + (length m.input - length t.left)) in
    worked n (make t.bytes (room_of n)) (λ b o. filled v.kind v.telling t.bytes o go))

-- 62 if no bytes are left, 23 if over 254 bytes; on these no input is taken
abbrev pub input_line : List ℕ → Machine → Variable → (Machine → Next) → Next
input_line [] m v go = fails InputPastEnd m
input_line (b ∷ s) m v go = line_taken m v (take_line (b ∷ s)) go

-- ---- READ: items are taken one after another, left to right

-- a number by one optional sign and digits only, else 5, out of range 6
abbrev pub given_number : Result ℕ Error → Telling → Machine → (Machine → Next) → Next
given_number (Ok w) name m go = store_number m name w go
given_number (Err e) name m go = fails e m

-- an item for a string makes one
abbrev pub given : Kind → Telling → List ℕ → Machine → (Machine → Next) → Next
given kind.Whole name b m go = given_number (number_item b) name m go
given kind.Text name b m go = worked m (make b (room_of m)) (λ v n. store_string n name b go)

-- past the last is 4
abbrev pub next_item : List (List ℕ) → Machine → (List ℕ → Machine → Next) → Next
next_item [] m go = fails OutOfData m
next_item (b ∷ l) m go = go b (with_items m l)

unfoldable pub read_items : List Variable → Machine → (Machine → Next) → Next
read_items [] m go = go m
read_items (v ∷ vs) m go = next_item m.items m (λ b n. given v.kind v.telling b n (λ o. read_items vs o go))

-- ---- all statements

-- a part of an IF is entered on the same line
abbrev pub branch : Machine → List Line → Part → Next
branch m lines p = goes_on m (record { lines = lines; rest = part p })

-- a false IF without ELSE goes to the next line, as a branch does that has run out
abbrev pub line_over : Machine → List Line → Next
line_over m lines = goes_on m (record { lines = lines; rest = nothing })

-- what a statement of a program does that stands at a place of its line
abbrev pub do_statement : List ℕ → ℕ → Statement → Machine → Position → Next
do_statement program at tree.empty m after = goes_on m after
do_statement program at (tree.assign v f) m after =
    worked m (value_of f m.variables (room_of m)) (λ x n. assigned v.kind v.telling x n (λ o. goes_on o after))
do_statement program at (tree.print is) m after = print_items false is m (λ n. goes_on n after)
do_statement program at (tree.if_then c p) m after =
    worked_whole c m (λ w n. cond (eqb w 0) (line_over n after.lines) (branch n after.lines p))
do_statement program at (tree.if_else c p q) m after =
    worked_whole c m (λ w n. branch n after.lines (cond (eqb w 0) q p))
do_statement program at (tree.goto l) m after = to_line m (from_number l.0 (lines_of program)) (λ ls. enters m ls)
do_statement program at (tree.gosub l) m after =
    to_line m (from_number l.0 (lines_of program)) (λ ls. pushed m (call after) (λ n. enters n ls))
do_statement program at tree.return m after = returned m (sought is_call m.records)
do_statement program at (tree.for v from to by) m after =
    cond (is_whole_kind v.kind) (from_start v.telling at after from to by m) (fails TypeMismatch m)
do_statement program at tree.next m after = next_on m (sought is_loop m.records) after
do_statement program at (tree.next_of v) m after =
    cond (is_whole_kind v.kind) (next_on m (sought (is_loop_of v.telling) m.records) after) (fails TypeMismatch m)
do_statement program at (tree.while c) m after = while_by (wend_for at after.lines) at c m after
do_statement program at tree.wend m after = turned_back m (sought (is_while_of (start_of after.lines) at) m.records)
do_statement program at (tree.line_input t v) m after =
    written m t (λ n. input_line n.input n v (λ o. goes_on o after))
do_statement program at (tree.data_of l) m after = goes_on m after
do_statement program at (tree.read vs) m after = read_items vs m (λ n. goes_on n after)
do_statement program at tree.restore m after = goes_on (with_items m (items_of_text program)) after
do_statement program at (tree.restore_to l) m after =
    to_line m (from_number l.0 (lines_of program)) (λ ls. goes_on (with_items m (items_of (stands ls))) after)
do_statement program at tree.end m after = ends m
do_statement program at tree.stop m after = stops m
do_statement program at tree.remark m after = goes_on m after
