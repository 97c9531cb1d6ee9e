-- NEXT never ends in 7: every loop's variable was made by its FOR, and a variable that was made stays.
use Rattle.std.specs.Prelude.{Err, Ok, Result, ℕ}
use Rattle.whole.specs.declared.errors.Error.{Error}
use mathlib.Core.Path.{◌≡◌, refl}
use mathlib.Core.Bool.{Bool, true, false, false≢true}
use mathlib.Core.List.{List, [], ◌∷◌}
use Prim.Native.Nat.{ℕ, zero, suc, ◌+◌, ◌-◌}
use lib.Dec.{ltb, leb, eqb}
use lib.IntN.{ℤ, pos, negsuc}
use lib.ListN.{length}
use lib.Signed.{lt_z}
use Rattle.whole.specs.Digits.{number_item}
use Rattle.whole.specs.Errors.{error_number}
use Rattle.whole.specs.Whole.{fit, applied}
use Rattle.whole.specs.declared.arithmetic.Operator.TheVariants.{Add}
use Rattle.words.specs.Names.{Telling, alike}
use Rattle.words.specs.declared.names.Kind.{Kind}
use Rattle.words.specs.declared.names.Kind.TheVariants as kind
use Rattle.words.specs.declared.places.LineNumber.{LineNumber}
use Rattle.words.proofs.Choices.{by_test}
use Rattle.loader.specs.Lines.{Line, lines_of, from_number, next_line}
use Rattle.grammar.specs.Trees as tree
use Rattle.grammar.specs.Trees.{Formula, Variable, Item, Statement}
use Rattle.variables.proofs.Names.{alike_self}
use Rattle.variables.specs.Strings.{Value, whole, text, Outcome, value, fault, make}
use Rattle.variables.specs.Variables.{NumberVariable, word_of, set_number, has_number, numbers_full, strings_full}
use Rattle.operators.specs.Values.{value_of}
use Rattle.machine.specs.Items.{fresh}
use Rattle.machine.specs.Machine.{Position, Record, loop, call, again, Machine, room_of, with_input, with_items, with_step, noting, write, comma_blanks, is_call, is_loop, is_loop_of, Search, missing, found, sought, passed, longest_input_line}
use Rattle.statements.specs.Parts.{Rest, nothing, part, head_of, tail_of, place_of}
use Rattle.machine.specs.Order.{Partner, none, some, next_for, wend_for}
use Rattle.machine.specs.Repeats.{start_of, is_while, is_while_of}
use Rattle.turns.specs.Steps.{Next, goes_on, enters, ends, stops, fails, whole_only, worked, worked_whole, with_number, store_number, store_string, assigned, written, print_items, to_line, pushed, returned, cleared, begun, turned, next_on, take_line, filled, input_line, is_whole_kind, do_statement, names_other, skipped, here_of, repeated, while_by, turned_back, given_number, given, next_item, read_items}
use Rattle.runner.specs.Run.{line_number_of, Entered, over, faulty, opened, enter, Standing, finished, at, by_entered, entering, onward, following, turn}
use Rattle.promises.specs.Passing.{stands_after, is_next, lacks_room, NextHasRoom}
use Rattle.promises.proofs.Checked.Operators.{by_choice}
use Rattle.promises.proofs.Records as records
use Rattle.promises.proofs.Records.{sought_each, below_each}
use Rattle.promises.proofs.Loops.{looped}

-- ---- variables

-- a variable that is there stays,
number_stays : (vs : List NumberVariable) (name : Telling) (w : ℕ) (u : Telling) → has_number vs u ≡ true → has_number (set_number vs name w) u ≡ true
unfolding has_number set_number
number_stays [] name w u e = absurd (false≢true e)
number_stays (v ∷ vs) name w u e =
    by_test (alike v.name name)
    (λ t. rw t e)
    λ t. by_test (alike v.name u)
    (λ s. rw t (rw s))
    (λ s. let h : has_number vs u ≡ true = rw s at e in rw t (rw s (number_stays vs name w u h)))

-- and one that is set is there
number_made : (vs : List NumberVariable) (name : Telling) (w : ℕ) → has_number (set_number vs name w) name ≡ true
unfolding has_number set_number
number_made [] name w = rw (alike_self name)
number_made (v ∷ vs) name w =
    by_test (alike v.name name) (λ t. rw t (rw t)) (λ t. rw t (rw t (number_made vs name w)))

-- ---- records: each loop's variable is there

abbrev RecordMade : List NumberVariable → Record → Type 0
RecordMade vs (loop v limit step p) = has_number vs v ≡ true
RecordMade vs (call p) = Unit {0}
RecordMade vs (again p) = Unit {0}

abbrev RecordsMade : List NumberVariable → List Record → Type 0
RecordsMade vs rs = records.Each (RecordMade vs) rs

abbrev SearchMade : List NumberVariable → Search → Type 0
SearchMade vs s = records.Found (RecordMade vs) s

abbrev MachineMade : Machine → Type 0
MachineMade m = RecordsMade m.variables.numbers m.records

record_stays : (vs : List NumberVariable) (name : Telling) (w : ℕ) (r : Record) → RecordMade vs r → RecordMade (set_number vs name w) r
record_stays vs name w (loop v limit step p) h = number_stays vs name w v h
record_stays vs name w (call p) h = tt
record_stays vs name w (again p) h = tt

records_stay : (vs : List NumberVariable) (name : Telling) (w : ℕ) (rs : List Record) → RecordsMade vs rs → RecordsMade (set_number vs name w) rs
records_stay vs name w [] h = tt
records_stay vs name w (r ∷ rs) h = (record_stays vs name w r h.0, records_stay vs name w rs h.1)

-- ---- what a statement comes to

abbrev NextMade : Next → Type 0
NextMade (goes_on m p) = MachineMade m
NextMade (enters m ls) = MachineMade m
NextMade (ends m) = Unit {0}
NextMade (stops m) = Unit {0}
NextMade (fails e m) = Unit {0}

abbrev Continues : (Machine → Next) → Type 0
Continues go = (m : Machine) → MachineMade m → NextMade (go m)

worked_made : (m : Machine) (o : Outcome) (go : Value → Machine → Next) → MachineMade m → ((v : Value) → Continues (go v)) → NextMade (worked m o go)
worked_made m (value v room) go r k = k v (noting m room) r
worked_made m (fault e room) go r k = tt

whole_made : (v : Value) (m : Machine) (go : ℕ → Next) → ((w : ℕ) → NextMade (go w)) → NextMade (whole_only v m go)
whole_made (whole w) m go k = k w
whole_made (text b) m go k = tt

whole_worked : (f : Formula) (m : Machine) (go : ℕ → Machine → Next) → MachineMade m → ((w : ℕ) → Continues (go w)) → NextMade (worked_whole f m go)
whole_worked f m go r k =
    worked_made m (value_of f m.variables (room_of m)) (λ v n. whole_only v n (λ w. go w n)) r
    (λ v n q. whole_made v n (λ w. go w n) (λ w. k w n q))

-- a number is stored, and then its variable is there
number_stored : (m : Machine) (name : Telling) (w : ℕ) (go : Machine → Next) → MachineMade m
    → ((n : Machine) → MachineMade n → has_number n.variables.numbers name ≡ true → NextMade (go n)) → NextMade (store_number m name w go)
number_stored m name w go r k =
    let vs = m.variables.numbers in
    by_choice NextMade (numbers_full vs name) tt
    (k (with_number m name w) (records_stay vs name w m.records r) (number_made vs name w))

string_stored : (m : Machine) (name : Telling) (b : List ℕ) (go : Machine → Next) → MachineMade m → Continues go → NextMade (store_string m name b go)
string_stored m name b go r k = by_choice NextMade (strings_full m.variables.strings name) tt (k _ r)

assigned_made : (k : Kind) (name : Telling) (v : Value) (m : Machine) (go : Machine → Next) → MachineMade m → Continues go
    → NextMade (assigned k name v m go)
assigned_made kind.Whole name (whole w) m go r k = number_stored m name w go r (λ n q h. k n q)
assigned_made kind.Whole name (text b) m go r k = tt
assigned_made kind.Text name (whole w) m go r k = tt
assigned_made kind.Text name (text b) m go r k = string_stored m name b go r k

written_made : (m : Machine) (bytes : List ℕ) (go : Machine → Next) → MachineMade m → Continues go → NextMade (written m bytes go)
unfolding write
written_made m bytes go r k =
    by_test (ltb m.output_room (length m.output + length bytes)) (λ e. rw e tt) (λ e. rw e (k _ r))

print_made : (quiet : Bool) (is : List Item) (m : Machine) (go : Machine → Next) → MachineMade m → Continues go → NextMade (print_items quiet is m go)
unfolding print_items
print_made quiet [] m go r k = by_choice NextMade quiet (k m r) (written_made m (13 ∷ 10 ∷ []) go r k)
print_made quiet (tree.comma ∷ is) m go r k = written_made m (comma_blanks m) _ r (λ n q. print_made true is n go q k)
print_made quiet (tree.semicolon ∷ is) m go r k = print_made true is m go r k
print_made quiet (tree.shown f ∷ is) m go r k =
    worked_made m (value_of f m.variables (room_of m)) _ r (λ v n q. written_made n _ _ q (λ o s. print_made false is o go s k))

line_made : (m : Machine) (ls : List Line) (go : List Line → Next) → ((from : List Line) → NextMade (go from)) → NextMade (to_line m ls go)
line_made m [] go k = tt
line_made m (l ∷ ls) go k = k (l ∷ ls)

pushed_made : (m : Machine) (r : Record) (go : Machine → Next) → MachineMade m → RecordMade m.variables.numbers r → Continues go
    → NextMade (pushed m r go)
pushed_made m r go q p k = by_choice NextMade (leb m.record_room (length m.records)) tt (k _ (p, q))

returned_made : (m : Machine) (s : Search) → SearchMade m.variables.numbers s → NextMade (returned m s)
returned_made m missing h = tt
returned_made m (found r under) h = h.1

skipped_made : (name : Telling) (s : Partner) → Continues (skipped name s)
skipped_made name none m r = tt
skipped_made name (some x) m r = by_choice NextMade (names_other name (head_of x.part)) tt r

begun_made : (name : Telling) (place : ℕ) (after : Position) (start limit step : ℕ) → Continues (begun name place after start limit step)
begun_made name place after start limit step m r =
    number_stored m name start (looped name place after start limit step) r (λ n q h.
    let clear = below_each (RecordMade n.variables.numbers) (is_loop_of name) n.records q in
    by_choice NextMade (passed start limit step)
    (skipped_made name (next_for place after.lines) (cleared name n) clear)
    (pushed_made (cleared name n) (loop name limit step after) (λ o. goes_on o after) clear h (λ o s. s)))

turned_made : (m : Machine) (v : Telling) (limit step : ℕ) (back : Position) (under : List Record) (after : Position) (a : Result ℕ Error)
    → RecordsMade m.variables.numbers under → NextMade (turned m v limit step back under after a)
turned_made m v limit step back under after (Ok w) u =
    let vs = m.variables.numbers in
    let stay = records_stay vs v w under u in
    by_choice NextMade (numbers_full vs v) tt (by_choice NextMade (passed w limit step) stay (number_made vs v w, stay))
turned_made m v limit step back under after (Err e) u = tt

found_made : (m : Machine) (s : Search) (after : Position) → SearchMade m.variables.numbers s → NextMade (next_on m s after)
found_made m missing after h = tt
found_made m (found (loop v limit step back) under) after h =
    turned_made m v limit step back under after (applied Add (word_of m.variables.numbers v) step) h.1
found_made m (found (call q) under) after h = tt
found_made m (found (again q) under) after h = tt

next_made : (test : Record → Bool) (m : Machine) (after : Position) → MachineMade m → NextMade (next_on m (sought test m.records) after)
next_made test m after r =
    found_made m (sought test m.records) after (sought_each (RecordMade m.variables.numbers) test m.records r)

repeated_made : (m : Machine) (s : Search) (here after : Position) → MachineMade m → SearchMade m.variables.numbers s → NextMade (repeated m s here after)
repeated_made m missing here after r h = pushed_made m (again here) (λ n. goes_on n after) r tt (λ n q. q)
repeated_made m (found x under) here after r h = h

while_made : (s : Partner) (place : ℕ) (c : Formula) (m : Machine) (after : Position) → MachineMade m → NextMade (while_by s place c m after)
while_made none place c m after r = tt
while_made (some w) place c m after r =
    let test = is_while (start_of after.lines) place in
    whole_worked c m _ r (λ v n q. by_choice NextMade (eqb v 0)
    (below_each (RecordMade n.variables.numbers) test n.records q)
    (repeated_made n (sought test n.records) (here_of place c after) after q (sought_each (RecordMade n.variables.numbers) test n.records q)))

back_made : (m : Machine) (s : Search) → SearchMade m.variables.numbers s → NextMade (turned_back m s)
back_made m missing h = tt
back_made m (found r under) h = h

filled_made : (k : Kind) (name : Telling) (b : List ℕ) (m : Machine) (go : Machine → Next) → MachineMade m → Continues go
    → NextMade (filled k name b m go)
filled_made kind.Whole name b m go r k = tt
filled_made kind.Text name b m go r k = string_stored m name b go r k

input_made : (s : List ℕ) (m : Machine) (v : Variable) (go : Machine → Next) → MachineMade m → Continues go → NextMade (input_line s m v go)
input_made [] m v go r k = tt
input_made (b ∷ s) m v go r k =
    let t = take_line (b ∷ s) in
    by_choice NextMade (ltb longest_input_line (length t.bytes)) tt
    (worked_made (with_input m t.left (m.taken + (length m.input - length t.left))) (make t.bytes _) _ r (λ c n q. filled_made v.kind v.telling t.bytes n go q k))

given_made : (k : Kind) (name : Telling) (b : List ℕ) (m : Machine) (go : Machine → Next) → MachineMade m → Continues go → NextMade (given k name b m go)
given_made kind.Whole name b m go r k = by_number (number_item b)
  where
    by_number : (a : Result ℕ Error) → NextMade (given_number a name m go)
    by_number (Ok w) = number_stored m name w go r (λ n q h. k n q)
    by_number (Err e) = tt
given_made kind.Text name b m go r k = worked_made m (make b (room_of m)) _ r (λ v n q. string_stored n name b go q k)

read_made : (vs : List Variable) (m : Machine) (go : Machine → Next) → MachineMade m → Continues go → NextMade (read_items vs m go)
unfolding read_items
read_made [] m go r k = k m r
read_made (v ∷ vs) m go r k = by_items m.items (λ n q. read_made vs n go q k)
  where
    by_items : (l : List (List ℕ)) → Continues (λ n. read_items vs n go) → NextMade (next_item l m (λ b n. given v.kind v.telling b n (λ o. read_items vs o go)))
    by_items [] h = tt
    by_items (b ∷ l) h = given_made v.kind v.telling b (with_items m l) _ r h

statement_made : (program : List ℕ) (place : ℕ) (x : Statement) (m : Machine) (after : Position) → MachineMade m → NextMade (do_statement program place x m after)
statement_made program place tree.empty m after r = r
statement_made program place (tree.assign v f) m after r =
    worked_made m (value_of f m.variables (room_of m)) _ r (λ x n q. assigned_made v.kind v.telling x n _ q (λ o s. s))
statement_made program place (tree.print is) m after r = print_made false is m _ r (λ n q. q)
statement_made program place (tree.if_then c p) m after r = whole_worked c m _ r (λ w n q. by_choice NextMade (eqb w 0) q q)
statement_made program place (tree.if_else c p o) m after r = whole_worked c m _ r (λ w n q. q)
statement_made program place (tree.goto l) m after r = line_made m (from_number l.0 (lines_of program)) (λ ls. enters m ls) (λ from. r)
statement_made program place (tree.gosub l) m after r =
    line_made m (from_number l.0 (lines_of program)) (λ ls. pushed m (call after) (λ n. enters n ls))
    (λ from. pushed_made m (call after) (λ n. enters n from) r tt (λ n q. q))
statement_made program place tree.return m after r = returned_made m (sought is_call m.records) (sought_each (RecordMade m.variables.numbers) is_call m.records r)
statement_made program place (tree.for v from to by) m after r =
    by_choice NextMade (is_whole_kind v.kind)
    (whole_worked from m _ r λ a n rn.
    whole_worked to n _ rn λ b o ro.
    whole_worked by o _ ro λ s q rq.
    begun_made v.telling place after a b s q rq)
    tt
statement_made program place tree.next m after r = next_made is_loop m after r
statement_made program place (tree.next_of v) m after r =
    by_choice NextMade (is_whole_kind v.kind) (next_made (is_loop_of v.telling) m after r) tt
statement_made program place (tree.while c) m after r = while_made (wend_for place after.lines) place c m after r
statement_made program place tree.wend m after r =
    let test = is_while_of (start_of after.lines) place in
    back_made m (sought test m.records) (sought_each (RecordMade m.variables.numbers) test m.records r)
statement_made program place (tree.line_input t v) m after r = written_made m t _ r (λ n q. input_made n.input n v _ q (λ o s. s))
statement_made program place (tree.data_of l) m after r = r
statement_made program place (tree.read vs) m after r = read_made vs m _ r (λ n q. q)
statement_made program place tree.restore m after r = r
statement_made program place (tree.restore_to l) m after r = line_made m (from_number l.0 (lines_of program)) _ (λ from. r)
statement_made program place tree.end m after r = tt
statement_made program place tree.stop m after r = tt
statement_made program place tree.remark m after r = r

-- ---- where a run stands

abbrev StandingMade : Standing → Type 0
StandingMade (finished r) = Unit {0}
StandingMade (at m lines p) = MachineMade m

entered_made : (e : Entered) (m : Machine) (lines : List Line) → MachineMade m → StandingMade (by_entered e m lines)
entered_made over m lines r = tt
entered_made (faulty e) m lines r = tt
entered_made (opened p) m lines r = r

onward_made : (m : Machine) (lines : List Line) (rest : Rest) → MachineMade m → StandingMade (onward m lines rest)
onward_made m lines nothing r = entered_made (enter (next_line lines)) m (next_line lines) r
onward_made m lines (part p) r = r

following_made : (line : LineNumber) (n : Next) → NextMade n → StandingMade (following line n)
following_made line (goes_on m p) h = onward_made m p.lines p.rest h
following_made line (enters m lines) h = entered_made (enter lines) m lines h
following_made line (ends m) h = tt
following_made line (stops m) h = tt
following_made line (fails e m) h = tt

stands_made : (n : ℕ) (program : List ℕ) (s : Standing) → StandingMade s → StandingMade (stands_after n program s)
unfolding stands_after
stands_made zero program s h = h
stands_made (suc n) program (finished r) h = tt
stands_made (suc n) program (at m lines p) h =
    let after : Position = record { lines = lines; rest = tail_of p } in
    let next = do_statement program (place_of p) (head_of p) (with_step m) after in
    stands_made n program (turn program m lines p)
    (following_made (line_number_of lines) next (statement_made program (place_of p) (head_of p) (with_step m) after h))

-- ---- NEXT

abbrev HasRoom : Next → Type 0
HasRoom n = lacks_room n ≡ false

-- a sum that is too large is 6
abbrev AnswerHasRoom : Result ℕ Error → Type 0
AnswerHasRoom (Ok w) = Unit {0}
AnswerHasRoom (Err e) = eqb (error_number e) 7 ≡ false

fit_has_room : (z : ℤ) → AnswerHasRoom (fit z)
unfolding fit
fit_has_room z = by_choice AnswerHasRoom (lt_z (pos 32767) z) refl (by_choice AnswerHasRoom (lt_z z (negsuc 32767)) refl tt)

turned_has_room : (m : Machine) (v : Telling) (limit step : ℕ) (back : Position) (under : List Record) (after : Position) (a : Result ℕ Error)
    → has_number m.variables.numbers v ≡ true → AnswerHasRoom a → HasRoom (turned m v limit step back under after a)
turned_has_room m v limit step back under after (Ok w) h k = rw h (by_choice HasRoom (passed w limit step) refl refl)
turned_has_room m v limit step back under after (Err e) h k = k

found_has_room : (m : Machine) (s : Search) (after : Position) → SearchMade m.variables.numbers s → HasRoom (next_on m s after)
found_has_room m missing after h = refl
found_has_room m (found (loop v limit step back) under) after h =
    turned_has_room m v limit step back under after (applied Add (word_of m.variables.numbers v) step) h.0 (fit_has_room _)
found_has_room m (found (call q) under) after h = refl
found_has_room m (found (again q) under) after h = refl

searched_has_room : (test : Record → Bool) (m : Machine) (after : Position) → MachineMade m → HasRoom (next_on m (sought test m.records) after)
searched_has_room test m after r =
    found_has_room m (sought test m.records) after (sought_each (RecordMade m.variables.numbers) test m.records r)

statement_has_room : (program : List ℕ) (place : ℕ) (x : Statement) (m : Machine) (after : Position) → is_next x ≡ true → MachineMade m
    → HasRoom (do_statement program place x m after)
statement_has_room program place tree.next m after e r = searched_has_room is_loop m after r
statement_has_room program place (tree.next_of v) m after e r =
    by_choice HasRoom (is_whole_kind v.kind) (searched_has_room (is_loop_of v.telling) m after r) refl
statement_has_room program place tree.empty m after e r = absurd (false≢true e)
statement_has_room program place (tree.assign v f) m after e r = absurd (false≢true e)
statement_has_room program place (tree.print is) m after e r = absurd (false≢true e)
statement_has_room program place (tree.if_then c p) m after e r = absurd (false≢true e)
statement_has_room program place (tree.if_else c p o) m after e r = absurd (false≢true e)
statement_has_room program place (tree.goto l) m after e r = absurd (false≢true e)
statement_has_room program place (tree.gosub l) m after e r = absurd (false≢true e)
statement_has_room program place tree.return m after e r = absurd (false≢true e)
statement_has_room program place (tree.for v from to by) m after e r = absurd (false≢true e)
statement_has_room program place (tree.while c) m after e r = absurd (false≢true e)
statement_has_room program place tree.wend m after e r = absurd (false≢true e)
statement_has_room program place (tree.line_input t v) m after e r = absurd (false≢true e)
statement_has_room program place (tree.data_of l) m after e r = absurd (false≢true e)
statement_has_room program place (tree.read vs) m after e r = absurd (false≢true e)
statement_has_room program place tree.restore m after e r = absurd (false≢true e)
statement_has_room program place (tree.restore_to l) m after e r = absurd (false≢true e)
statement_has_room program place tree.end m after e r = absurd (false≢true e)
statement_has_room program place tree.stop m after e r = absurd (false≢true e)
statement_has_room program place tree.remark m after e r = absurd (false≢true e)

pub next_has_room : NextHasRoom
next_has_room program input lent statements m lines p stands e =
    let begins = fresh program input lent in
    let made : StandingMade (at m lines p) =
    rw stands at (stands_made statements program (entering begins (lines_of program)) (entered_made (enter (lines_of program)) begins (lines_of program) tt)) in
    statement_has_room program (place_of p) (head_of p) (with_step m) (record { lines = lines; rest = tail_of p }) e made
