-- Bridge: how the code's machine, records and positions hold the definition's.
-- The contracts of functions that crates use among themselves cite it; no demand and no promise of run, check_recipe or ask rests on it.
use Rattle.std.specs.Prelude.{◌≡◌, Bool, true, false, cond, not, ◌||◌, List, [], ◌∷◌, ◌++◌, ℕ, zero, suc, ◌+◌, ◌≤◌, ◌<◌, leb, eqb, length, get_or, take, drop, Option, Some, None}
use Rattle.words.specs.Places.{place}
use Rattle.words.specs.declared.places.Place.{Place}
use Rattle.words.specs.declared.symbols.Scanned.{Scanned}
use Rattle.words.specs.declared.symbols.Sign.TheVariants.{Colon}
use Rattle.scanner.specs.Tokens.{token_at}
use Rattle.grammar.specs.Tests.{is_symbol}
use Rattle.loader.specs.Lines.{Line, lines_from, lines_of, after_number, next_line}
use Rattle.grammar.specs.Trees.{Part}
use Rattle.statements.specs.Statements.{PartReading, bad_part, good_part, part_of}
use Rattle.variables.specs.Variables.{Variables}
use Rattle.variables.specs.bridge.Memory.{name_at, numbers_held, strings_held, TidyNumbers, TidyStrings}
use Rattle.variables.specs.Tables.{sum_of}
use Rattle.variables.specs.declared.tables.Tables.{Tables}
use Rattle.variables.specs.Strings.{longest_space}
use Rattle.machine.specs.Machine as spec
use Rattle.machine.specs.Machine.{loop, call, again, most_records, column_after}
use Rattle.items.specs.Items.{items, items_from}
use Rattle.reader.specs.bridge.Walking.{Onto}
use Rattle.machine.specs.Items.{items_of}
use Rattle.machine.specs.Order.{Stand, parts_in, placed, stands, some}
-- it stands among what is to be believed, as the run's contract names it
pub use Rattle.machine.specs.Records.{blank_record}
use Rattle.machine.specs.Repeats.{start_of, wend_of}
use Rattle.statements.specs.Parts.{Rest, nothing, part, place_of, statements_of, deepest_in}
use Rattle.expressions.specs.Types.{deepest_nesting}
use Rattle.machine.specs.declared.state.Feed.{Feed}
use Rattle.machine.specs.declared.state.Machine.{Machine}
use Rattle.machine.specs.declared.state.Printer.{Printer}
use Rattle.machine.specs.declared.positions.Position.{Position}
use Rattle.machine.specs.declared.records.Record.{Record}

-- ---- positions: a line by its place in the text, a statement by its place in the line

-- the lines of a text from a place on
abbrev pub lines_at : List ℕ → ℕ → List Line
lines_at text p = lines_from p (drop p text)

-- what stands after the number of the first of some lines
abbrev pub body_of : List Line → List ℕ
body_of [] = []
body_of (l ∷ ls) = after_number l

-- what is left of a part, from a place of the line on
abbrev pub rest_by : PartReading → Rest
rest_by bad_part = nothing
rest_by (good_part p end) = part p

abbrev pub rest_at : List ℕ → ℕ → Rest
rest_at line at = rest_by (part_of line true at)

abbrev pub position_of : List ℕ → Position → spec.Position
position_of text q = record {
  lines = lines_at text q.line.0;
  rest = cond q.over nothing (rest_at (body_of (lines_at text q.line.0)) q.at.0);
}

-- a line of the text begins at a place
pub record Begins (text : List ℕ) (p : ℕ) : Type 0 where
  pub before : List Line
  pub first : Line
  pub others : List Line
  pub here : lines_at text p ≡ first ∷ others
  pub all : lines_of text ≡ before ++ lines_at text p

-- no formula of a part nests deeper than 8
abbrev pub Shallow : Part → Type 0
Shallow p = deepest_in (statements_of p) ≤ deepest_nesting

-- a part that reads from a place of a line on
pub record Parted (line : List ℕ) (at : ℕ) : Type 0 where
  pub of : Part
  pub end : Scanned
  pub is : part_of line true at ≡ good_part of end
  pub shallow : Shallow of

-- a position of a line of the text, where a statement stands unless the line is over
pub record Positioned (text : List ℕ) (q : Position) : Type 0 where
  pub begins : Begins text q.line.0
  pub reads : q.over ≡ false → Parted (body_of (lines_at text q.line.0)) q.at.0

-- ---- records

abbrev call_kind : ℕ
call_kind = 1

abbrev count_kind : ℕ
count_kind = 2

abbrev repeat_kind : ℕ
repeat_kind = 3

-- a FOR's, and a WHILE's: any other kind is a GOSUB's
abbrev pub counts : Record → Bool
counts e = eqb e.kind count_kind

abbrev pub repeats : Record → Bool
repeats e = eqb e.kind repeat_kind

-- a search goes on past it
abbrev pub passes : Record → Bool
passes e = counts e || repeats e

-- the place to come back to: any number but 0 says that the line is over
abbrev pub back_of : Record → Position
back_of e = record { line = place e.line; at = place e.at; over = not (eqb e.over 0) }

abbrev pub over_number : Bool → ℕ
over_number over = cond over 1 0

abbrev pub call_record : Position → Record
call_record back =
    record { kind = call_kind; over = over_number back.over; limit = 0; step = 0; spare = 0; slot = 0; line = back.line.0; at = back.at.0; ending = 0; close = 0 }

-- a WHILE's at a place of its line, whose WEND stands at a place of another
abbrev pub while_record : Place → Place → Place → Place → Record
while_record line at ending close =
    record { kind = repeat_kind; over = 0; limit = 0; step = 0; spare = 0; slot = 0; line = line.0; at = at.0; ending = ending.0; close = close.0 }

abbrev pub loop_record : ℕ → ℕ → ℕ → Position → Record
loop_record slot limit step back =
    record { kind = count_kind; over = over_number back.over; limit = limit; step = step; spare = 0; slot = slot; line = back.line.0; at = back.at.0; ending = 0; close = 0 }

-- a loop's variable is the one whose name stands at the entry
abbrev pub record_of : List ℕ → List ℕ → Record → spec.Record
record_of text names e =
    cond (counts e) (loop (name_at names e.slot) e.limit e.step (position_of text (back_of e)))
    (cond (repeats e) (again (position_of text (back_of e))) (call (position_of text (back_of e))))

-- the first so many of some, the topmost first
unfoldable pub records_in : List ℕ → List ℕ → List Record → ℕ → List spec.Record
records_in text names rs zero = []
records_in text names rs (suc d) = record_of text names (get_or rs d blank_record) ∷ records_in text names rs d

-- ---- printing

abbrev pub printed_as : Printer → ℕ → List ℕ → Option Printer
printed_as p long bytes =
    cond (leb (p.written + length bytes) long)
    (Some (record { column = column_after p.column bytes; written = p.written + length bytes }))
    None

-- ---- the items of DATA that are left

-- from a line on, and from a statement of a line on
abbrev pub feed_from : Place → Feed
feed_from line = record { line = line; at = place 0; inside = false }

abbrev pub feed_at : Place → Place → Feed
feed_at line at = record { line = line; at = at; inside = false }

-- from a place of a line that begins at another on, the text has these statements
pub record StandsFrom (text : List ℕ) (line at : ℕ) (xs : List Stand) : Type 0 where
  pub begins : Begins text line
  pub before : List Part
  pub parts : List Part
  pub whole : parts_in (lines_at text line) ≡ before ++ parts
  pub onto : Onto (body_of (lines_at text line)) at parts
  pub all : xs ≡ placed (lines_at text line) parts ++ stands (next_line (lines_at text line))

-- outside of a DATA statement: those of all lines from a place on, or of the statements from a place of a line on
pub data Outside (text : List ℕ) (line at : ℕ) (l : List (List ℕ)) : Type 0 where
  from_line : at ≡ 0 → (before : List Line) → lines_of text ≡ before ++ lines_at text line → l ≡ items_of (stands (lines_at text line))
      → Outside text line at l
  from_statement : (at ≡ 0 → ⊥) → (xs : List Stand) → StandsFrom text line at xs → l ≡ items_of xs → Outside text line at l

-- where the first of some lines is over
abbrev pub start_after : List Line → ℕ
start_after [] = 0
start_after (l ∷ ls) = l.next

-- where they go on after the token that ends a DATA statement: after a colon in its line, or at the next
abbrev pub feed_after : Place → Place → Scanned → Feed
feed_after line next t = cond (is_symbol Colon t.token) (feed_at line t.next) (feed_from next)

abbrev pub feed_past : List ℕ → Place → ℕ → Feed
feed_past text line end =
    feed_after line (place (start_after (lines_at text line.0))) (token_at (body_of (lines_at text line.0)) (place end))

-- inside of one: the items from a place of its line on, and those after it
pub record Inside (text : List ℕ) (line at : ℕ) (l : List (List ℕ)) : Type 0 where
  pub begins : Begins text line
  pub within : at ≤ length (body_of (lines_at text line))
  pub own : List (List ℕ)
  pub end : ℕ
  pub reads : items_from (body_of (lines_at text line)) at ≡ items own end
  pub others : List (List ℕ)
  pub after : let f = feed_past text (place line) end in Outside text f.line.0 f.at.0 others
  pub all : l ≡ own ++ others

abbrev pub Feeds : List ℕ → Feed → List (List ℕ) → Type 0
Feeds text f l = cond f.inside (Inside text f.line.0 f.at.0 l) (Outside text f.line.0 f.at.0 l)

-- some are
pub record Fed (text : List ℕ) (f : Feed) : Type 0 where
  pub items : List (List ℕ)
  pub feeds : Feeds text f items

-- ---- the machine

abbrev pub fresh_machine : ℕ → Machine
fresh_machine records = record {
  used = record { 0 = 0 };
  printer = record { column = 0; written = 0 };
  taken = place 0;
  feed = feed_from (place 0);
  steps = 0;
  depth = 0;
  records = records;
}

-- the machine with the tables that are lent beside it
pub record State : Type 0 where
  pub tables : Tables
  pub used : ℕ
  pub printer : Printer
  pub taken : ℕ
  pub feed : Feed
  pub steps : ℕ
  pub depth : ℕ
  -- how many records there can be
  pub records : ℕ

abbrev pub state_of : Machine → Tables → State
state_of m tables = record {
  tables = tables;
  used = m.used.0;
  printer = m.printer;
  taken = m.taken.0;
  feed = m.feed;
  steps = m.steps;
  depth = m.depth;
  records = m.records;
}

abbrev pub variables_of : State → List ℕ → Variables
variables_of m space =
    record { numbers = numbers_held m.tables.numbers; strings = strings_held m.tables.strings space }

-- what holds of its tables and the space
pub record Settled (m : State) (space : List ℕ) : Type 0 where
  pub numbers : TidyNumbers m.tables.numbers
  pub strings : TidyStrings m.tables.strings
  pub all : sum_of m.tables.strings.lengths ≡ m.used
  pub within : m.used ≤ length space
  pub small : length space ≤ longest_space

-- of its printer and the room
pub record Fitting (p : Printer) (room : List ℕ) : Type 0 where
  pub narrow : p.column ≤ p.written
  pub within : p.written ≤ length room

-- and of all of it, at every statement
pub record Sound (m : State) (input space room : List ℕ) : Type 0 where
  pub settled : Settled m space
  pub fitting : Fitting m.printer room
  pub taken : m.taken ≤ length input
  pub deep : m.depth ≤ m.records

-- a WHILE's record comes back to the WHILE itself, and has the place of its WEND
pub record Paired (text : List ℕ) (e : Record) : Type 0 where
  pub ongoing : e.over ≡ 0
  pub wend : Stand
  pub is : wend_of (position_of text (back_of e)) ≡ some wend
  pub line : start_of wend.lines ≡ e.ending
  pub at : place_of wend.part ≡ e.close

-- a record comes back to a place where a statement stands, and a loop's variable is one of so many
pub record Placed (text : List ℕ) (numbers : ℕ) (e : Record) : Type 0 where
  pub back : Positioned text (back_of e)
  pub known : counts e ≡ true → e.slot < numbers
  pub paired : repeats e ≡ true → Paired text e

-- the definition's machine that it holds; only the highest number of unfinished strings is the definition's alone
pub record Same (text : List ℕ) (rs : List Record) (m : State) (input space room : List ℕ) (n : spec.Machine) : Type 0 where
  pub variables : n.variables ≡ variables_of m space
  pub records : n.records ≡ records_in text m.tables.numbers.names rs m.depth
  pub record_room : n.record_room ≡ m.records
  pub slots : length rs ≡ m.records
  pub few : m.records ≤ most_records
  pub column : n.column ≡ m.printer.column
  pub output : n.output ≡ take m.printer.written room
  pub output_room : n.output_room ≡ length room
  pub left : n.input ≡ drop m.taken input
  pub taken : n.taken ≡ m.taken
  pub feeds : Feeds text m.feed n.items
  pub steps : n.steps ≡ m.steps
  pub limit : n.space ≡ length space
  pub placed : (i : ℕ) → i < m.depth → Placed text m.tables.numbers.count (get_or rs i blank_record)
