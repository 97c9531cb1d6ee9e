-- Each statement of a text whose formulas are proper keeps the machine's variables and input proper, and goes on where such statements stand.
use Rattle.std.specs.Prelude.{Err, Ok, Result, ℕ}
use Rattle.whole.specs.declared.errors.Error.{Error}
use mathlib.Core.Path.{◌≡◌, refl}
use mathlib.Core.Bool.{Bool, true, false, cond}
use mathlib.Core.List.{List, [], ◌∷◌}
use Prim.Native.Nat.{ℕ, ◌+◌, ◌-◌, ◌≤◌, ◌<◌}
use native.Mathlib.Omega.{arith}
use borrow.Author.Tests.{ltb-false}
use lib.Dec.{ltb, leb, eqb}
use lib.IntN.{◌+ℤ◌}
use lib.ListN.{length}
use Rattle.whole.specs.Digits.{number_item}
use Rattle.whole.specs.Texts.{longest_string}
use Rattle.whole.specs.Whole.{num, applied}
use Rattle.whole.specs.declared.arithmetic.Operator.TheVariants.{Add}
use Rattle.words.specs.declared.names.Kind.{Kind}
use Rattle.words.specs.declared.names.Kind.TheVariants as kind
use Rattle.words.specs.Names.{Telling}
use Rattle.words.specs.declared.symbols.Word.TheVariants as word
use Rattle.words.proofs.Choices.{by_test}
use Rattle.loader.specs.Lines.{Line, ends_line, dropped, in_front, started_at, with_byte, lines_from, lines_of, from_number}
use Rattle.grammar.specs.Trees as tree
use Rattle.grammar.specs.Trees.{Formula, Variable, Item, Statement, Part}
use Rattle.statements.specs.Parts.{item_formulas, head_of, Rest, parts_of, parts_within, heads, statements_of}
use Rattle.statements.proofs.Depths.{heads_append}
use Rattle.variables.specs.Strings.{Value, whole, text, Outcome, value, fault, make}
use Rattle.variables.specs.Variables.{word_of, numbers_full, strings_full}
use Rattle.operators.specs.Values.{value_of}
use Rattle.machine.specs.Machine.{Position, Record, loop, call, again, Machine, room_of, with_records, with_input, write, comma_blanks, Search, missing, found, sought, passed, is_call, is_loop, is_loop_of, longest_input_line, with_items}
use Rattle.machine.specs.Order.{Stand, Partner, none, some, past, pairs_by, next_for, wend_for}
use Rattle.machine.specs.Repeats.{start_of, is_while, is_while_of}
use Rattle.order.proofs.Laws.{Every, every_front, every_back, Throughout, LinesThroughout}
use Rattle.turns.specs.Steps.{Next, goes_on, enters, ends, stops, fails, worked, whole_only, worked_whole, with_number, with_string, assigned, written, shown_value, print_items, to_line, pushed, returned, turned, next_on, first_line, take_line, filled, input_line, is_whole_kind, do_statement, cleared, begun, names_other, skipped, here_of, repeated, while_by, turned_back, given_number, given, next_item, read_items}
use Rattle.laws.specs.Laws.{words}
use Rattle.laws.proofs.Positions.{RestThroughout, PositionThroughout, RecordThroughout, from_throughout, partner_throughout, here_throughout}
use Rattle.run_laws.proofs.Proper.{Bytes, drop_bytes, Proper, ProperAnswer, fit_proper, item_proper, ProperOutcome, make_proper, ProperVariables, set_number_lem, set_string_lem, ProperFormula, value_proper}
use Rattle.run_laws.proofs.Lines.{ProperItem, ProperStatement, lines_items}
use Rattle.promises.proofs.Records as records
use Rattle.promises.proofs.Records.{sought_each, below_each}

-- ---- where a run goes on

abbrev pub ProperLines : List Line → Type 0
ProperLines ls = LinesThroughout ProperStatement ls

abbrev pub ProperPart : Part → Type 0
ProperPart p = Throughout ProperStatement p

abbrev pub ProperRest : Rest → Type 0
ProperRest r = RestThroughout ProperStatement r

abbrev pub ProperPosition : Position → Type 0
ProperPosition p = PositionThroughout ProperStatement p

-- ---- what the machine holds

abbrev ProperRecord : Record → Type 0
ProperRecord r = RecordThroughout ProperStatement r

pub record Sound (m : Machine) : Type 0 where
  pub variables : ProperVariables m.variables
  pub input : Bytes m.input
  pub items : Every ProperItem m.items
  pub held : records.Each ProperRecord m.records

abbrev pub ProperNext : Next → Type 0
ProperNext (goes_on m p) = Sound m × ProperPosition p
ProperNext (enters m lines) = Sound m × ProperLines lines
ProperNext (ends m) = Sound m
ProperNext (stops m) = Sound m
ProperNext (fails e m) = Sound m

-- ---- working out

worked_sound : {m : Machine} (o : Outcome) (go : Value → Machine → Next) → Sound m → ProperOutcome o
    → ((v : Value) (n : Machine) → Proper v → Sound n → ProperNext (go v n)) → ProperNext (worked m o go)
worked_sound (value v room) go s h k = k v _ h (record { variables = s.variables; input = s.input; items = s.items; held = s.held })
worked_sound (fault e room) go s h k = record { variables = s.variables; input = s.input; items = s.items; held = s.held }

formula_sound : (f : Formula) (m : Machine) (go : Value → Machine → Next) → ProperFormula f → Sound m
    → ((v : Value) (n : Machine) → Proper v → Sound n → ProperNext (go v n)) → ProperNext (worked m (value_of f m.variables (room_of m)) go)
formula_sound f m go p s k = worked_sound (value_of f m.variables (room_of m)) go s (value_proper m.variables s.variables f (room_of m) p) k

whole_sound : (f : Formula) (m : Machine) (go : ℕ → Machine → Next) → ProperFormula f → Sound m
    → ((w : ℕ) (n : Machine) → w < words → Sound n → ProperNext (go w n)) → ProperNext (worked_whole f m go)
whole_sound f m go p s k = formula_sound f m _ p s by_value
  where
    by_value : (v : Value) (n : Machine) → Proper v → Sound n → ProperNext (whole_only v n (λ w. go w n))
    by_value (whole w) n h t = k w n h t
    by_value (text b) n h t = t

-- ---- assignment

-- a test decides between an error and what comes next
either_proper : (t : Bool) (x y : Next) → ProperNext x → ProperNext y → ProperNext (cond t x y)
either_proper true x y h k = h
either_proper false x y h k = k

number_sound : {m : Machine} (name : Telling) (w : ℕ) → w < words → Sound m → Sound (with_number m name w)
number_sound {m} name w h s = record {
  variables = record { numbers = set_number_lem m.variables.numbers name w h s.variables.numbers; strings = s.variables.strings };
  input = s.input;
  items = s.items;
  held = s.held;
}

string_sound : {m : Machine} (name : Telling) (b : List ℕ) → Proper (text b) → Sound m → Sound (with_string m name b)
string_sound {m} name b h s = record {
  variables = record { numbers = s.variables.numbers; strings = set_string_lem m.variables.strings name b h s.variables.strings };
  input = s.input;
  items = s.items;
  held = s.held;
}

assigned_sound : (k : Kind) (name : Telling) (v : Value) {m : Machine} (after : Position) → Proper v → Sound m → ProperPosition after
    → ProperNext (assigned k name v m (λ o. goes_on o after))
assigned_sound kind.Whole name (whole w) {m} after h s a =
    either_proper (numbers_full m.variables.numbers name) _ _ s (number_sound name w h s, a)
assigned_sound kind.Whole name (text b) after h s a = s
assigned_sound kind.Text name (whole w) after h s a = s
assigned_sound kind.Text name (text b) {m} after h s a =
    either_proper (strings_full m.variables.strings name) _ _ s (string_sound name b h s, a)

-- ---- PRINT

written_sound : (m : Machine) (b : List ℕ) (go : Machine → Next) → Sound m → ((n : Machine) → Sound n → ProperNext (go n))
    → ProperNext (written m b go)
unfolding write
written_sound m b go s k =
    by_test (ltb m.output_room (length m.output + length b))
    (λ e. rw e s)
    (λ e. rw e (k _ (record { variables = s.variables; input = s.input; items = s.items; held = s.held })))

print_sound : (quiet : Bool) (is : List Item) (m : Machine) (go : Machine → Next) → Every ProperFormula (item_formulas is) → Sound m
    → ((n : Machine) → Sound n → ProperNext (go n)) → ProperNext (print_items quiet is m go)
unfolding print_items
print_sound quiet [] m go p s k = either_proper quiet _ _ (k m s) (written_sound m (13 ∷ 10 ∷ []) go s k)
print_sound quiet (tree.comma ∷ is) m go p s k = written_sound m (comma_blanks m) _ s (λ n t. print_sound true is n go p t k)
print_sound quiet (tree.semicolon ∷ is) m go p s k = print_sound true is m go p s k
print_sound quiet (tree.shown f ∷ is) m go p s k =
    formula_sound f m _ p.0 s (λ v n h t. written_sound n (shown_value v) _ t (λ o u. print_sound false is o go p.1 u k))

-- ---- jumps and records

line_sound : {m : Machine} (lines : List Line) (go : List Line → Next) → Sound m → ProperLines lines
    → ((ls : List Line) → ProperLines ls → ProperNext (go ls)) → ProperNext (to_line m lines go)
line_sound [] go s h k = s
line_sound (l ∷ ls) go s h k = k (l ∷ ls) h

records_sound : {m : Machine} (rs : List Record) → Sound m → records.Each ProperRecord rs → Sound (with_records m rs)
records_sound rs s h = record { variables = s.variables; input = s.input; items = s.items; held = h }

pushed_sound : {m : Machine} (r : Record) (go : Machine → Next) → Sound m → ProperRecord r → ((n : Machine) → Sound n → ProperNext (go n))
    → ProperNext (pushed m r go)
pushed_sound {m} r go s h k =
    either_proper (leb m.record_room (length m.records)) _ _ s (k _ (records_sound (r ∷ m.records) s (h, s.held)))

returned_sound : {m : Machine} (x : Search) → Sound m → records.Found ProperRecord x → ProperNext (returned m x)
returned_sound missing s h = s
returned_sound (found r under) s h = (records_sound under s h.1, h.0)

turned_sound : {m : Machine} (v : Telling) (limit step : ℕ) (back : Position) (under : List Record) (after : Position) (x : Result ℕ Error)
    → ProperAnswer x → Sound m → ProperPosition back → records.Each ProperRecord under → ProperPosition after
    → ProperNext (turned m v limit step back under after x)
turned_sound {m} v limit step back under after (Ok w) h s b u a =
    let n = number_sound v w h s in
    either_proper (numbers_full m.variables.numbers v) _ _ s
    (either_proper (passed w limit step) _ _ (records_sound under n u, a) (records_sound (loop v limit step back ∷ under) n (b, u), b))
turned_sound v limit step back under after (Err e) h s b u a = s

next_sound : {m : Machine} (x : Search) (after : Position) → Sound m → records.Found ProperRecord x → ProperPosition after
    → ProperNext (next_on m x after)
next_sound missing after s h a = s
next_sound {m} (found (loop v limit step back) under) after s h a =
    let w = word_of m.variables.numbers v in
    turned_sound v limit step back under after (applied Add w step) (fit_proper (num w +ℤ num step)) s h.0 h.1 a
next_sound (found (call back) under) after s h a = s
next_sound (found (again back) under) after s h a = s

skipped_sound : {m : Machine} (v : Telling) (p : Partner) → Sound m → ((x : Stand) → p ≡ some x → ProperPosition (past x))
    → ProperNext (skipped v p m)
skipped_sound v none s h = s
skipped_sound v (some x) s h = either_proper (names_other v (head_of x.part)) _ _ s (s, h x refl)

loop_sound : (m : Machine) (v : Telling) (at from limit step : ℕ) (after : Position) → from < words → Sound m → ProperPosition after
    → ProperNext (begun v at after from limit step m)
loop_sound m v at from limit step after h s a =
    let clear : Sound (cleared v (with_number m v from)) =
    records_sound _ (number_sound v from h s) (below_each ProperRecord (is_loop_of v) m.records s.held) in
    either_proper (numbers_full m.variables.numbers v) _ _ s
    (either_proper (passed from limit step) _ _
    (skipped_sound v (next_for at after.lines) clear (partner_throughout ProperStatement (pairs_by word.For word.Next) at after.lines a.0))
    (pushed_sound (loop v limit step after) (λ r. goes_on r after) clear a (λ r t. (t, a))))

-- ---- WHILE and WEND

repeated_sound : {m : Machine} (x : Search) (here after : Position) → Sound m → records.Found ProperRecord x → ProperPosition here
    → ProperPosition after → ProperNext (repeated m x here after)
repeated_sound missing here after s h b a = pushed_sound (again here) (λ n. goes_on n after) s b (λ n t. (t, a))
repeated_sound (found r under) here after s h b a = (records_sound (r ∷ under) s h, a)

while_sound : (p : Partner) (at : ℕ) (c : Formula) (m : Machine) (after : Position) → ProperStatement (tree.while c) → Sound m → ProperPosition after
    → ((x : Stand) → p ≡ some x → ProperPosition (past x)) → ProperNext (while_by p at c m after)
while_sound none at c m after g s a h = s
while_sound (some w) at c m after g s a h =
    let test = is_while (start_of after.lines) at in
    whole_sound c m _ g.0 s (λ v n i t. either_proper (eqb v 0) _ _
    (records_sound _ t (below_each ProperRecord test n.records t.held), h w refl)
    (repeated_sound (sought test n.records) (here_of at c after) after t (sought_each ProperRecord test n.records t.held)
    (a.0, here_throughout ProperStatement at c after.rest g a.1) a))

back_sound : {m : Machine} (x : Search) → Sound m → records.Found ProperRecord x → ProperNext (turned_back m x)
back_sound missing s h = s
back_sound (found r under) s h = (records_sound (r ∷ under) s h, h.0)

-- ---- LINE INPUT

lines_bytes : (p : ℕ) (s : List ℕ) → Bytes s → Every (λ l. Bytes l.bytes) (lines_from p s)
unfolding lines_from
lines_bytes p [] h = tt
lines_bytes p (b ∷ t) h = with_byte_lem (dropped b t) (lines_from (p + 1) t) (lines_bytes (p + 1) t h.1)
  where
    in_front_lem : (ls : List Line) → Every (λ l. Bytes l.bytes) ls → Every (λ l. Bytes l.bytes) (in_front p b ls)
    in_front_lem [] k = ((h.0, tt), tt)
    in_front_lem (l ∷ ls) k = ((h.0, k.0), k.1)

    started : (ls : List Line) → Every (λ l. Bytes l.bytes) ls → Every (λ l. Bytes l.bytes) (started_at p ls)
    started [] k = tt
    started (l ∷ ls) k = k

    with_byte_lem : (d : Bool) (ls : List Line) → Every (λ l. Bytes l.bytes) ls → Every (λ l. Bytes l.bytes) (with_byte p b d ls)
    with_byte_lem d ls k =
        by_test (ends_line b) (λ e. rw e (tt, k)) (λ e. rw e (by_test d (λ f. rw f (started ls k)) (λ f. rw f (in_front_lem ls k))))

line_bytes : (input : List ℕ) → Bytes input → Bytes (take_line input).bytes × Bytes (take_line input).left
line_bytes input h = first (lines_from 0 input) (lines_bytes 0 input h)
  where
    first : (ls : List Line) → Every (λ l. Bytes l.bytes) ls → Bytes (first_line input ls).bytes × Bytes (first_line input ls).left
    first [] k = (tt, tt)
    first (l ∷ ls) k = (k.0, drop_bytes l.next input h)

filled_sound : (k : Kind) (name : Telling) (b : List ℕ) {m : Machine} (after : Position) → Proper (text b) → Sound m → ProperPosition after
    → ProperNext (filled k name b m (λ o. goes_on o after))
filled_sound kind.Whole name b after h s a = s
filled_sound kind.Text name b after h s a = assigned_sound kind.Text name (text b) after h s a

input_sound : (input : List ℕ) (m : Machine) (v : Variable) (after : Position) → Bytes input → Sound m → ProperPosition after
    → ProperNext (input_line input m v (λ o. goes_on o after))
input_sound [] m v after h s a = s
input_sound (b ∷ rest) m v after h s a =
    let t = take_line (b ∷ rest) in
    let k = line_bytes (b ∷ rest) h in
    let n = with_input m t.left (m.taken + (length m.input - length t.left)) in
    let i : Sound n = record { variables = s.variables; input = k.1; items = s.items; held = s.held } in
    by_test (ltb longest_input_line (length t.bytes)) (λ e. rw e s) (λ e.
    let short : length t.bytes ≤ longest_string = omega (arith, ltb-false longest_input_line (length t.bytes) e) in
    rw e (worked_sound (make t.bytes (room_of n)) _ i (make_proper t.bytes (room_of n) short k.0)
    (λ x o h u. filled_sound v.kind v.telling t.bytes after (short, k.0) u a)))

-- ---- READ and RESTORE

given_sound : (k : Kind) (name : Telling) (b : List ℕ) (m : Machine) (go : Machine → Next) → ProperItem b → Sound m
    → ((n : Machine) → Sound n → ProperNext (go n)) → ProperNext (given k name b m go)
given_sound kind.Whole name b m go h s next = by_number (number_item b) (item_proper b)
  where
    by_number : (x : Result ℕ Error) → ProperAnswer x → ProperNext (given_number x name m go)
    by_number (Ok w) p = either_proper (numbers_full m.variables.numbers name) _ _ s (next (with_number m name w) (number_sound name w p s))
    by_number (Err e) p = s
given_sound kind.Text name b m go h s next =
    worked_sound (make b (room_of m)) _ s (make_proper b (room_of m) h.0 h.1)
    (λ x o p u. either_proper (strings_full o.variables.strings name) _ _ u (next (with_string o name b) (string_sound name b h u)))

-- the machine with other items
items_sound : {m : Machine} (l : List (List ℕ)) → Every ProperItem l → Sound m → Sound (with_items m l)
items_sound l h s = record { variables = s.variables; input = s.input; items = h; held = s.held }

read_sound : (vs : List Variable) (m : Machine) (go : Machine → Next) → Sound m → ((n : Machine) → Sound n → ProperNext (go n))
    → ProperNext (read_items vs m go)
unfolding read_items
read_sound [] m go s h = h m s
read_sound (v ∷ vs) m go s h = by_items m.items s.items (λ n t. read_sound vs n go t h)
  where
    by_items : (l : List (List ℕ)) → Every ProperItem l → ((n : Machine) → Sound n → ProperNext (read_items vs n go))
        → ProperNext (next_item l m (λ b n. given v.kind v.telling b n (λ o. read_items vs o go)))
    by_items [] p r = s
    by_items (b ∷ l) p r = given_sound v.kind v.telling b (with_items m l) _ p.0 (items_sound l p.1 s) r

-- ---- all statements

pub statement_sound : (program : List ℕ) (at : ℕ) (x : Statement) (m : Machine) (after : Position) → ProperLines (lines_of program)
    → ProperStatement x → Every ProperStatement (heads (parts_within x)) → Sound m → ProperPosition after
    → ProperNext (do_statement program at x m after)
unfolding parts_of heads
statement_sound program at tree.empty m after l g p s a = (s, a)
statement_sound program at (tree.assign v f) m after l g p s a =
    formula_sound f m _ g.0 s (λ x n h t. assigned_sound v.kind v.telling x after h t a)
statement_sound program at (tree.print is) m after l g p s a = print_sound false is m _ g s (λ n t. (t, a))
statement_sound program at (tree.if_then c q) m after l g p s a =
    whole_sound c m _ g.0 s (λ w n h t. either_proper (eqb w 0) _ _ (t, (a.0, tt)) (t, (a.0, p)))
statement_sound program at (tree.if_else c q r) m after l g p s a =
    let k = rw (heads_append (parts_of q) (parts_of r)) at p in
    let front = every_front ProperStatement (statements_of q) (statements_of r) k in
    let back = every_back ProperStatement (statements_of q) (statements_of r) k in
    whole_sound c m _ g.0 s (λ w n h t. by_test (eqb w 0) (λ e. rw e (t, (a.0, back))) (λ e. rw e (t, (a.0, front))))
statement_sound program at (tree.goto n) m after l g p s a =
    line_sound (from_number n.0 (lines_of program)) _ s (from_throughout ProperStatement n.0 (lines_of program) l) (λ ls h. (s, h))
statement_sound program at (tree.gosub n) m after l g p s a =
    line_sound (from_number n.0 (lines_of program)) _ s (from_throughout ProperStatement n.0 (lines_of program) l) (λ ls h.
    pushed_sound (call after) (λ o. enters o ls) s a (λ o t. (t, h)))
statement_sound program at tree.return m after l g p s a =
    returned_sound (sought is_call m.records) s (sought_each ProperRecord is_call m.records s.held)
statement_sound program at (tree.for v from to by) m after l g p s a =
    either_proper (is_whole_kind v.kind) _ _
    (whole_sound from m _ g.0 s (λ x n h t.
    whole_sound to n _ g.1.0 t (λ y o i u.
    whole_sound by o _ g.1.1.0 u (λ z q j w. loop_sound q v.telling at x y z after h w a))))
    s
statement_sound program at tree.next m after l g p s a =
    next_sound (sought is_loop m.records) after s (sought_each ProperRecord is_loop m.records s.held) a
statement_sound program at (tree.next_of v) m after l g p s a =
    either_proper (is_whole_kind v.kind) _ _
    (next_sound (sought (is_loop_of v.telling) m.records) after s
    (sought_each ProperRecord (is_loop_of v.telling) m.records s.held) a)
    s
statement_sound program at (tree.while c) m after l g p s a =
    while_sound (wend_for at after.lines) at c m after g s a (partner_throughout ProperStatement (pairs_by word.While word.Wend) at after.lines a.0)
statement_sound program at tree.wend m after l g p s a =
    let test = is_while_of (start_of after.lines) at in
    back_sound (sought test m.records) s (sought_each ProperRecord test m.records s.held)
statement_sound program at (tree.line_input t v) m after l g p s a =
    written_sound m t _ s (λ n i. input_sound n.input n v after i.input i a)
statement_sound program at (tree.data_of d) m after l g p s a = (s, a)
statement_sound program at (tree.read vs) m after l g p s a = read_sound vs m _ s (λ n t. (t, a))
statement_sound program at tree.restore m after l g p s a = (items_sound _ (lines_items (lines_of program) l) s, a)
statement_sound program at (tree.restore_to n) m after l g p s a =
    line_sound (from_number n.0 (lines_of program)) _ s (from_throughout ProperStatement n.0 (lines_of program) l)
    (λ ls h. (items_sound _ (lines_items ls h) s, a))
statement_sound program at tree.end m after l g p s a = s
statement_sound program at tree.stop m after l g p s a = s
statement_sound program at tree.remark m after l g p s a = (s, a)
