-- No statement has more than 28 unfinished strings, and wherever the run goes on, only formulas that were let through stand.
use Rattle.std.specs.Prelude.{Err, Ok, Result, ℕ}
use Rattle.whole.specs.declared.errors.Error.{Error}
use mathlib.Core.Path.{◌≡◌, refl}
use mathlib.Core.Bool.{Bool, true, false, cond}
use mathlib.Core.List.{List, [], ◌∷◌}
use Prim.Native.Nat.{ℕ, ◌+◌, ◌-◌, ◌≤◌}
use native.Mathlib.Omega.{arith}
use lib.Dec.{ltb, leb, eqb}
use lib.ListN.{length}
use Rattle.whole.specs.Digits.{number_item}
use Rattle.whole.specs.Whole.{applied}
use Rattle.whole.specs.declared.arithmetic.Operator.TheVariants.{Add}
use Rattle.words.specs.declared.names.Kind.{Kind}
use Rattle.words.specs.declared.names.Kind.TheVariants as kind
use Rattle.words.specs.Names.{Telling}
use Rattle.words.specs.declared.symbols.Word.TheVariants as word
use Rattle.words.proofs.Choices.{by_test}
use Rattle.loader.specs.Lines.{Line, lines_of, from_number}
use Rattle.grammar.specs.Trees as tree
use Rattle.grammar.specs.Trees.{Formula, Variable, Item, Statement, Part, last, more}
use Rattle.statements.specs.Parts.{item_formulas, formulas_of, head_of, tail_of, Rest, nothing, part, parts_of, parts_within, heads}
use Rattle.variables.specs.Strings.{Value, whole, text, Room, Outcome, value, fault, make}
use Rattle.variables.specs.Variables.{word_of, numbers_full, strings_full}
use Rattle.operators.specs.Values.{value_of}
use Rattle.machine.specs.Machine.{Position, Record, loop, call, again, Machine, room_of, with_input, with_items, noting, write, comma_blanks, Search, missing, found, sought, passed, is_call, is_loop, is_loop_of, back_of, longest_input_line}
use Rattle.machine.specs.Order.{Stand, later, Bracket, Partner, none, some, partner, pairs_by, next_for, wend_for}
use Rattle.machine.specs.Repeats.{start_of, is_while, is_while_of}
use Rattle.order.proofs.Laws.{later_throughout, StandThroughout, partner_one}
use Rattle.turns.specs.Steps.{Next, goes_on, enters, ends, stops, fails, worked, whole_only, worked_whole, with_number, with_string, assigned, written, shown_value, print_items, to_line, pushed, returned, turned, next_on, take_line, filled, input_line, given_number, given, next_item, read_items, is_whole_kind, do_statement, cleared, begun, names_other, skipped, part_begun, here_of, repeated, while_by, turned_back}
use Rattle.promises.specs.Unfinished.{most_unfinished}
use Rattle.promises.proofs.Records as records
use Rattle.promises.proofs.Records.{sought_each, below_each}
use Rattle.promises.proofs.Waiting.Rooms.{Good, make_good}
use Rattle.promises.proofs.Waiting.Needs.{value_good}
use Rattle.promises.proofs.Waiting.Nesting.{Fine, needs_few}
use Rattle.promises.proofs.Waiting.Reading.{Each, Every, parts_split, PartFine, lines_fine}

-- ---- what the machine holds

abbrev pub RestFine : Rest → Type 0
RestFine nothing = Unit {0}
RestFine (part p) = PartFine p

-- its first statement, the parts of that, and what is left
abbrev pub HeadFine : Part → Type 0
HeadFine p = Each Fine (formulas_of (head_of p)) × Every Fine (heads (parts_within (head_of p))) × RestFine (tail_of p)

pub head_fine : (p : Part) → PartFine p → HeadFine p
unfolding parts_of heads
head_fine (last q x) h = (h.0, h.1, tt)
head_fine (more q x rest) h = let k = parts_split Fine (parts_within x) (parts_of rest) h.1 in (h.0, k.0, k.1)

abbrev RecordFine : Record → Type 0
RecordFine r = RestFine (back_of r).rest

pub record Sound (m : Machine) : Type 0 where
  pub few : m.highest ≤ most_unfinished
  pub held : records.Each RecordFine m.records

abbrev pub NextFine : Next → Type 0
NextFine (goes_on m p) = Sound m × RestFine p.rest
NextFine (enters m lines) = Sound m
NextFine (ends m) = Sound m
NextFine (stops m) = Sound m
NextFine (fails e m) = Sound m

-- ---- working out

noting_sound : {m : Machine} (room : Room) → Sound m → room.highest ≤ most_unfinished → Sound (noting m room)
noting_sound room s h = record { few = h; held = s.held }

worked_sound : {m : Machine} (x : Outcome) (go : Value → Machine → Next) → Sound m → Good most_unfinished (room_of m) x
    → ((v : Value) (n : Machine) → Sound n → NextFine (go v n)) → NextFine (worked m x go)
worked_sound (value v room) go s h k = k v _ (noting_sound room s h.low)
worked_sound (fault e room) go s h k = noting_sound room s h

formula_good : {f : Formula} {m : Machine} → Fine f → Sound m → Good most_unfinished (room_of m) (value_of f m.variables (room_of m))
formula_good {f} {m} g s = value_good most_unfinished f m.variables (room_of m) s.few (omega (arith, needs_few g))

formula_sound : {f : Formula} (m : Machine) (go : Value → Machine → Next) → Fine f → Sound m
    → ((v : Value) (n : Machine) → Sound n → NextFine (go v n)) → NextFine (worked m (value_of f m.variables (room_of m)) go)
formula_sound {f} m go g s k = worked_sound (value_of f m.variables (room_of m)) go s (formula_good g s) k

whole_sound : {f : Formula} (m : Machine) (go : ℕ → Machine → Next) → Fine f → Sound m
    → ((w : ℕ) (n : Machine) → Sound n → NextFine (go w n)) → NextFine (worked_whole f m go)
whole_sound m go g s k = formula_sound m _ g s by_value
  where
    by_value : (v : Value) (n : Machine) → Sound n → NextFine (whole_only v n (λ w. go w n))
    by_value (whole w) n t = k w n t
    by_value (text b) n t = t

-- ---- assignment

-- a test decides between an error and what comes next
either_fine : (t : Bool) (x y : Next) → NextFine x → NextFine y → NextFine (cond t x y)
either_fine true x y h k = h
either_fine false x y h k = k

assigned_sound : (k : Kind) (name : Telling) (v : Value) {m : Machine} (after : Position) → Sound m → RestFine after.rest
    → NextFine (assigned k name v m (λ o. goes_on o after))
assigned_sound kind.Whole name (whole w) {m} after s h =
    either_fine (numbers_full m.variables.numbers name) _ _ s (record { few = s.few; held = s.held }, h)
assigned_sound kind.Whole name (text b) after s h = s
assigned_sound kind.Text name (whole w) after s h = s
assigned_sound kind.Text name (text b) {m} after s h =
    either_fine (strings_full m.variables.strings name) _ _ s (record { few = s.few; held = s.held }, h)

-- ---- PRINT

written_sound : (m : Machine) (b : List ℕ) (go : Machine → Next) → Sound m → ((n : Machine) → Sound n → NextFine (go n))
    → NextFine (written m b go)
unfolding write
written_sound m b go s k =
    by_test (ltb m.output_room (length m.output + length b))
    (λ e. rw e s)
    (λ e. rw e (k _ (record { few = s.few; held = s.held })))

print_sound : (quiet : Bool) (is : List Item) (m : Machine) (go : Machine → Next) → Each Fine (item_formulas is) → Sound m
    → ((n : Machine) → Sound n → NextFine (go n)) → NextFine (print_items quiet is m go)
unfolding print_items
print_sound quiet [] m go g s k = either_fine quiet _ _ (k m s) (written_sound m (13 ∷ 10 ∷ []) go s k)
print_sound quiet (tree.comma ∷ is) m go g s k =
    written_sound m (comma_blanks m) _ s (λ n t. print_sound true is n go g t k)
print_sound quiet (tree.semicolon ∷ is) m go g s k = print_sound true is m go g s k
print_sound quiet (tree.shown f ∷ is) m go g s k =
    formula_sound m _ g.0 s (λ v n t. written_sound n (shown_value v) _ t (λ o u. print_sound false is o go g.1 u k))

-- ---- jumps and records

line_sound : {m : Machine} (lines : List Line) (go : List Line → Next) → Sound m → ((ls : List Line) → NextFine (go ls))
    → NextFine (to_line m lines go)
line_sound [] go s k = s
line_sound (l ∷ ls) go s k = k (l ∷ ls)

pushed_sound : {m : Machine} (r : Record) (go : Machine → Next) → Sound m → RecordFine r → ((n : Machine) → Sound n → NextFine (go n))
    → NextFine (pushed m r go)
pushed_sound {m} r go s h k =
    either_fine (leb m.record_room (length m.records)) _ _ s (k _ (record { few = s.few; held = (h, s.held) }))

abbrev SearchFine : Search → Type 0
SearchFine s = records.Found RecordFine s

returned_sound : {m : Machine} (x : Search) → Sound m → SearchFine x → NextFine (returned m x)
returned_sound missing s h = s
returned_sound (found r under) s h = (record { few = s.few; held = h.1 }, h.0)

turned_sound : {m : Machine} (v : Telling) (limit step : ℕ) (back : Position) (under : List Record) (after : Position) (x : Result ℕ Error)
    → Sound m → RestFine back.rest → records.Each RecordFine under → RestFine after.rest
    → NextFine (turned m v limit step back under after x)
turned_sound {m} v limit step back under after (Ok w) s b u a =
    either_fine (numbers_full m.variables.numbers v) _ _ s
    (either_fine (passed w limit step) _ _ (record { few = s.few; held = u }, a) (record { few = s.few; held = (b, u) }, b))
turned_sound v limit step back under after (Err e) s b u a = s

next_sound : {m : Machine} (x : Search) (after : Position) → Sound m → SearchFine x → RestFine after.rest → NextFine (next_on m x after)
next_sound missing after s h a = s
next_sound {m} (found (loop v limit step back) under) after s h a =
    turned_sound v limit step back under after (applied Add (word_of m.variables.numbers v) step) s h.0 h.1 a
next_sound (found (call back) under) after s h a = s
next_sound (found (again back) under) after s h a = s

-- the NEXT of a FOR, or the WEND of a WHILE
partner_fine : (test : Statement → Bracket) (at : ℕ) (lines : List Line) (x : Stand) → partner test 0 (later at lines) ≡ some x → PartFine x.part
partner_fine test at lines x e =
    let P : Statement → Type 0 = λ x. Each Fine (formulas_of x) in
    partner_one (StandThroughout P) test 0 (later at lines) (later_throughout P at lines (lines_fine lines)) x e

skipped_sound : {m : Machine} (v : Telling) (p : Partner) → Sound m → ((x : Stand) → p ≡ some x → PartFine x.part) → NextFine (skipped v p m)
skipped_sound v none s h = s
skipped_sound v (some x) s h = either_fine (names_other v (head_of x.part)) _ _ s (s, (head_fine x.part (h x refl)).2)

loop_sound : (m : Machine) (v : Telling) (at from limit step : ℕ) (after : Position) → Sound m → RestFine after.rest
    → NextFine (begun v at after from limit step m)
loop_sound m v at from limit step after s a =
    let q = with_number m v from in
    let clear : Sound (cleared v q) = record { few = s.few; held = below_each RecordFine (is_loop_of v) m.records s.held } in
    either_fine (numbers_full m.variables.numbers v) _ _ s
    (either_fine (passed from limit step) _ _
    (skipped_sound v (next_for at after.lines) clear (partner_fine (pairs_by word.For word.Next) at after.lines))
    (pushed_sound (loop v limit step after) (λ r. goes_on r after) clear a (λ r t. (t, a))))

-- ---- WHILE and WEND

-- the WHILE itself, with what is left after it
here_fine : (at : ℕ) (c : Formula) (r : Rest) → Each Fine (c ∷ []) → RestFine r → PartFine (part_begun at (tree.while c) r)
unfolding parts_of heads
here_fine at c nothing g h = (g, tt)
here_fine at c (part p) g h = (g, h)

repeated_sound : {m : Machine} (x : Search) (here after : Position) → Sound m → SearchFine x → RestFine here.rest → RestFine after.rest
    → NextFine (repeated m x here after)
repeated_sound missing here after s h b a = pushed_sound (again here) (λ n. goes_on n after) s b (λ n t. (t, a))
repeated_sound (found r under) here after s h b a = (record { few = s.few; held = h }, a)

while_sound : (p : Partner) (at : ℕ) (c : Formula) (m : Machine) (after : Position) → Each Fine (c ∷ []) → Sound m → RestFine after.rest
    → ((x : Stand) → p ≡ some x → PartFine x.part) → NextFine (while_by p at c m after)
while_sound none at c m after g s a h = s
while_sound (some w) at c m after g s a h =
    let test = is_while (start_of after.lines) at in
    whole_sound m _ g.0 s (λ v n t. either_fine (eqb v 0) _ _
    (record { few = t.few; held = below_each RecordFine test n.records t.held }, (head_fine w.part (h w refl)).2)
    (repeated_sound (sought test n.records) (here_of at c after) after t (sought_each RecordFine test n.records t.held)
    (here_fine at c after.rest g a) a))

back_sound : {m : Machine} (x : Search) → Sound m → SearchFine x → NextFine (turned_back m x)
back_sound missing s h = s
back_sound (found r under) s h = (record { few = s.few; held = h }, h.0)

-- ---- LINE INPUT

filled_sound : (k : Kind) (name : Telling) (b : List ℕ) {m : Machine} (after : Position) → Sound m → RestFine after.rest
    → NextFine (filled k name b m (λ o. goes_on o after))
filled_sound kind.Whole name b after s h = s
filled_sound kind.Text name b after s h = assigned_sound kind.Text name (text b) after s h

input_sound : (input : List ℕ) (m : Machine) (v : Variable) (after : Position) → Sound m → RestFine after.rest
    → NextFine (input_line input m v (λ o. goes_on o after))
input_sound [] m v after s h = s
input_sound (b ∷ rest) m v after s h =
    let t = take_line (b ∷ rest) in
    let n = with_input m t.left (m.taken + (length m.input - length t.left)) in
    let i : Sound n = record { few = s.few; held = s.held } in
    either_fine (ltb longest_input_line (length t.bytes)) _ _ s
    (worked_sound (make t.bytes (room_of n)) _ i
    (make_good most_unfinished t.bytes (room_of n) s.few (omega arith))
    (λ x o u. filled_sound v.kind v.telling t.bytes after u h))

-- ---- READ

given_sound : (k : Kind) (name : Telling) (b : List ℕ) (m : Machine) (go : Machine → Next) → Sound m → ((n : Machine) → Sound n → NextFine (go n))
    → NextFine (given k name b m go)
given_sound kind.Whole name b m go s h = by_number (number_item b)
  where
    by_number : (a : Result ℕ Error) → NextFine (given_number a name m go)
    by_number (Ok w) = either_fine (numbers_full m.variables.numbers name) _ _ s (h (with_number m name w) (record { few = s.few; held = s.held }))
    by_number (Err e) = s
given_sound kind.Text name b m go s h =
    worked_sound (make b (room_of m)) _ s (make_good most_unfinished b (room_of m) s.few (omega arith))
    (λ x o u. either_fine (strings_full o.variables.strings name) _ _ u (h (with_string o name b) (record { few = u.few; held = u.held })))

read_sound : (vs : List Variable) (m : Machine) (go : Machine → Next) → Sound m → ((n : Machine) → Sound n → NextFine (go n)) → NextFine (read_items vs m go)
unfolding read_items
read_sound [] m go s h = h m s
read_sound (v ∷ vs) m go s h = by_items m.items (λ n t. read_sound vs n go t h)
  where
    by_items : (l : List (List ℕ)) → ((n : Machine) → Sound n → NextFine (read_items vs n go)) → NextFine (next_item l m (λ b n. given v.kind v.telling b n (λ o. read_items vs o go)))
    by_items [] r = s
    by_items (b ∷ l) r =
        given_sound v.kind v.telling b (with_items m l) _ (record { few = s.few; held = s.held }) r

-- ---- all statements

pub statement_sound : (program : List ℕ) (at : ℕ) (x : Statement) (m : Machine) (after : Position) → Each Fine (formulas_of x)
    → Every Fine (heads (parts_within x)) → Sound m → RestFine after.rest → NextFine (do_statement program at x m after)
unfolding parts_of heads
statement_sound program at tree.empty m after g p s a = (s, a)
statement_sound program at (tree.assign v f) m after g p s a =
    formula_sound m _ g.0 s (λ x n t. assigned_sound v.kind v.telling x after t a)
statement_sound program at (tree.print is) m after g p s a = print_sound false is m _ g s (λ n t. (t, a))
statement_sound program at (tree.if_then c q) m after g p s a =
    whole_sound m _ g.0 s (λ w n t. either_fine (eqb w 0) _ _ (t, tt) (t, p))
statement_sound program at (tree.if_else c q r) m after g p s a =
    let h = parts_split Fine (parts_of q) (parts_of r) p in
    whole_sound m _ g.0 s (λ w n t. by_test (eqb w 0) (λ e. rw e (t, h.1)) (λ e. rw e (t, h.0)))
statement_sound program at (tree.goto l) m after g p s a = line_sound (from_number l.0 (lines_of program)) _ s (λ ls. s)
statement_sound program at (tree.gosub l) m after g p s a =
    line_sound (from_number l.0 (lines_of program)) _ s (λ ls. pushed_sound (call after) (λ n. enters n ls) s a (λ n t. t))
statement_sound program at tree.return m after g p s a = returned_sound (sought is_call m.records) s (sought_each RecordFine is_call m.records s.held)
statement_sound program at (tree.for v from to by) m after g p s a =
    either_fine (is_whole_kind v.kind) _ _
    (whole_sound m _ g.0 s (λ x n t.
    whole_sound n _ g.1.0 t (λ y o u.
    whole_sound o _ g.1.1.0 u (λ z q w. loop_sound q v.telling at x y z after w a))))
    s
statement_sound program at tree.next m after g p s a =
    next_sound (sought is_loop m.records) after s (sought_each RecordFine is_loop m.records s.held) a
statement_sound program at (tree.next_of v) m after g p s a =
    either_fine (is_whole_kind v.kind) _ _
    (next_sound (sought (is_loop_of v.telling) m.records) after s
    (sought_each RecordFine (is_loop_of v.telling) m.records s.held) a)
    s
statement_sound program at (tree.while c) m after g p s a =
    while_sound (wend_for at after.lines) at c m after g s a (partner_fine (pairs_by word.While word.Wend) at after.lines)
statement_sound program at tree.wend m after g p s a =
    let test = is_while_of (start_of after.lines) at in
    back_sound (sought test m.records) s (sought_each RecordFine test m.records s.held)
statement_sound program at (tree.line_input t v) m after g p s a =
    written_sound m t _ s (λ n i. input_sound n.input n v after i a)
statement_sound program at (tree.data_of l) m after g p s a = (s, a)
statement_sound program at (tree.read vs) m after g p s a = read_sound vs m _ s (λ n t. (t, a))
statement_sound program at tree.restore m after g p s a = (record { few = s.few; held = s.held }, a)
statement_sound program at (tree.restore_to l) m after g p s a =
    line_sound (from_number l.0 (lines_of program)) _ s (λ ls. (record { few = s.few; held = s.held }, a))
statement_sound program at tree.end m after g p s a = s
statement_sound program at tree.stop m after g p s a = s
statement_sound program at tree.remark m after g p s a = (s, a)
