-- What each statement keeps: a property of machines that every change of a machine keeps is kept by a whole run.
use Rattle.std.specs.Prelude.{Err, Ok, Result, ℕ}
use Rattle.whole.specs.declared.errors.Error.{Error}
use mathlib.Core.Path.{◌≡◌, refl}
use mathlib.Core.Bool.{Bool, true, false, cond}
use mathlib.Core.List.{List, [], ◌∷◌, ◌++◌}
use Prim.Native.Nat.{ℕ, ◌+◌, ◌-◌, ◌≤◌, ◌<◌}
use native.Mathlib.Omega.{arith}
use borrow.Author.Tests.{ltb-false, leb-false}
use lib.Dec.{ltb, leb, eqb}
use lib.ListN.{length, length-drop}
use Rattle.whole.specs.Digits.{number_item}
use Rattle.whole.specs.Whole.{applied}
use Rattle.whole.specs.declared.arithmetic.Operator.TheVariants.{Add}
use Rattle.words.specs.declared.names.Kind.{Kind}
use Rattle.words.specs.declared.names.Kind.TheVariants as kind
use Rattle.words.specs.Names.{Telling}
use Rattle.words.proofs.Choices.{by_test}
use Rattle.loader.specs.Lines.{Line, lines_of, lines_from, from_number}
use Rattle.grammar.specs.Trees as tree
use Rattle.grammar.specs.Trees.{Formula, Variable, Item, Statement}
use Rattle.variables.specs.Strings.{Value, whole, text, Room, Outcome, value, fault, make}
use Rattle.variables.specs.Variables.{Variables, word_of, numbers_full, strings_full}
use Rattle.operators.specs.Values.{value_of}
use Rattle.machine.specs.Machine.{Position, Record, loop, call, again, Machine, room_of, with_records, with_output, with_input, with_items, noting, column_after, write, comma_blanks, is_call, is_loop, is_loop_of, Search, missing, found, sought, below, passed, longest_input_line}
use Rattle.machine.specs.Order.{Stand, Partner, none, some, next_for, wend_for}
use Rattle.machine.specs.Repeats.{start_of, is_while, is_while_of}
use Rattle.statements.specs.Parts.{head_of}
use Rattle.turns.specs.Steps.{Next, goes_on, enters, ends, stops, fails, worked, whole_only, worked_whole, with_number, with_string, store_number, store_string, assigned, written, shown_value, print_items, to_line, pushed, returned, cleared, begun, turned, next_on, Taken, first_line, take_line, filled, line_taken, input_line, is_whole_kind, branch, line_over, do_statement, names_other, skipped, here_of, repeated, tested, while_by, turned_back, given_number, given, next_item, read_items}
use Rattle.whole.proofs.Never.{never}
use Rattle.promises.proofs.Counting.Rising.{highest_of, make_rises, value_rises}
use Rattle.promises.proofs.Loops.{looped}
use Rattle.promises.proofs.Records.{Fewer, sought_fewer, below_fewer}

-- what holds of the machine that a statement leaves, wherever it leads
abbrev pub Leaves : (Machine → Type 0) → Next → Type 0
Leaves P (goes_on m p) = P m
Leaves P (enters m lines) = P m
Leaves P (ends m) = P m
Leaves P (stops m) = P m
Leaves P (fails e m) = P m

-- there are no more of them than there can be, if there were not before
abbrev pub Roomy : Machine → List Record → Type 0
Roomy m rs = length m.records ≤ m.record_room → length rs ≤ m.record_room

-- each change that a statement makes without working anything out; a number is stored only where there is room for its variable, and a record
-- made only where there is room for it
pub record Changes (P : Machine → Type 0) : Type 0 where
  pub numbers : (m : Machine) (name : Telling) (w : ℕ) → numbers_full m.variables.numbers name ≡ false → P m → P (with_number m name w)
  pub records : (m : Machine) (rs : List Record) → Roomy m rs → P m → P (with_records m rs)
  pub prints : (m : Machine) (bytes : List ℕ) → length m.output + length bytes ≤ m.output_room
      → P m → P (with_output m (m.output ++ bytes) (column_after m.column bytes))
  pub takes : (m : Machine) (left : List ℕ) → length left ≤ length m.input
      → P m → P (with_input m left (m.taken + (length m.input - length left)))
  pub feeds : (m : Machine) (l : List (List ℕ)) → P m → P (with_items m l)

-- and those that come of working out: the most unfinished strings are noted, never fewer, and a finished string is handed over
pub record Keeps (P : Machine → Type 0) : Type 0 where
  pub changes : Changes P
  pub notes : (m : Machine) (room : Room) → m.highest ≤ room.highest → P m → P (noting m room)
  pub strings : (m : Machine) (name : Telling) (f : Formula) (b : List ℕ) (room : Room)
      → value_of f m.variables (room_of m) ≡ value (text b) room → strings_full m.variables.strings name ≡ false
      → P m → P (with_string (noting m room) name b)

-- a line of input is a text as a quoted one is
made_text : (b : List ℕ) (vars : Variables) (before : Room) (v : Value) (room : Room) → make b before ≡ value v room
    → value_of (tree.text b) vars before ≡ value (text b) room
unfolding value_of make
made_text b vars before v room e =
    by_test (ltb before.limit (before.live + length b))
    (λ t. let f = rw t at e in never (cc))
    (λ t. let f = rw t at e in rw t (cc))

-- ---- storing, printing, jumping, looping

module _ (P : Machine → Type 0) (k : Changes P) where
  pub number_keeps : (m : Machine) (name : Telling) (w : ℕ) (go : Machine → Next) → P m → ((n : Machine) → P n → Leaves P (go n))
      → Leaves P (store_number m name w go)
  number_keeps m name w go p h =
      by_test (numbers_full m.variables.numbers name) (λ e. rw e p) (λ e. rw e (h (with_number m name w) (k.numbers m name w e p)))

  -- where what is done next goes by the machine that stored it
  stored_keeps : (m : Machine) (name : Telling) (w : ℕ) (go : Machine → Next) → P m → (P (with_number m name w) → Leaves P (go (with_number m name w)))
      → Leaves P (store_number m name w go)
  stored_keeps m name w go p h =
      by_test (numbers_full m.variables.numbers name) (λ e. rw e p) (λ e. rw e (h (k.numbers m name w e p)))

  pub string_keeps : (m : Machine) (name : Telling) (b : List ℕ) (go : Machine → Next) → P m
      → (strings_full m.variables.strings name ≡ false → P (with_string m name b)) → ((n : Machine) → P n → Leaves P (go n)) → Leaves P (store_string m name b go)
  string_keeps m name b go p q h =
      by_test (strings_full m.variables.strings name) (λ e. rw e p) (λ e. rw e (h (with_string m name b) (q e)))

  pub written_keeps : (m : Machine) (bytes : List ℕ) (go : Machine → Next) → P m → ((n : Machine) → P n → Leaves P (go n))
      → Leaves P (written m bytes go)
  unfolding write
  written_keeps m bytes go p h =
      by_test (ltb m.output_room (length m.output + length bytes)) (λ e. rw e p)
      (λ e. rw e (h _ (k.prints m bytes (ltb-false _ _ e) p)))

  pub line_keeps : (m : Machine) (lines : List Line) (go : List Line → Next) → P m → ((ls : List Line) → Leaves P (go ls)) → Leaves P (to_line m lines go)
  line_keeps m [] go p h = p
  line_keeps m (l ∷ ls) go p h = h (l ∷ ls)

  pub pushed_keeps : (m : Machine) (r : Record) (go : Machine → Next) → P m → ((n : Machine) → P n → Leaves P (go n)) → Leaves P (pushed m r go)
  pushed_keeps m r go p h =
      by_test (leb m.record_room (length m.records)) (λ e. rw e p)
      (λ e. rw e (h (with_records m (r ∷ m.records)) (k.records m (r ∷ m.records) (λ _. leb-false _ _ e) p)))

  pub returned_keeps : (m : Machine) (s : Search) → Fewer (length m.records) s → P m → Leaves P (returned m s)
  returned_keeps m missing f p = p
  returned_keeps m (found r under) f p = k.records m under (λ l. omega arith) p

  skipped_keeps : (name : Telling) (s : Partner) (m : Machine) → P m → Leaves P (skipped name s m)
  skipped_keeps name none m p = p
  skipped_keeps name (some x) m p = by_test (names_other name (head_of x.part)) (λ e. rw e p) (λ e. rw e p)

  pub begun_keeps : (name : Telling) (at : ℕ) (after : Position) (start limit step : ℕ) (m : Machine) → P m
      → Leaves P (begun name at after start limit step m)
  begun_keeps name at after start limit step m p =
      number_keeps m name start (looped name at after start limit step) p (λ n q.
      by_test (passed start limit step)
      (λ e. rw e (skipped_keeps name (next_for at after.lines) (cleared name n) (k.records n _ (cleared_roomy n) q)))
      (λ e. rw e (pushed_keeps (cleared name n) (loop name limit step after) (λ o. goes_on o after) (k.records n _ (cleared_roomy n) q) (λ o r. r))))
    where
      cleared_roomy : (n : Machine) → Roomy n (cleared name n).records
      cleared_roomy n l = omega (arith, below_fewer n.records (sought (is_loop_of name) n.records) (sought_fewer (is_loop_of name) n.records))

  pub turned_keeps : (m : Machine) (v : Telling) (limit step : ℕ) (back : Position) (under : List Record) (after : Position) (a : Result ℕ Error)
      → length under < length m.records → P m → Leaves P (turned m v limit step back under after a)
  turned_keeps m v limit step back under after (Ok w) f p =
      stored_keeps m v w
      (λ n. cond (passed w limit step) (goes_on (with_records n under) after) (goes_on (with_records n (loop v limit step back ∷ under)) back)) p (λ q.
      by_test (passed w limit step) (λ e. rw e (k.records (with_number m v w) under (λ l. omega arith) q))
      (λ e. rw e (k.records (with_number m v w) (loop v limit step back ∷ under) (λ l. omega arith) q)))
  turned_keeps m v limit step back under after (Err e) f p = p

  pub next_keeps : (m : Machine) (s : Search) (after : Position) → Fewer (length m.records) s → P m → Leaves P (next_on m s after)
  next_keeps m missing after f p = p
  next_keeps m (found (loop v limit step back) under) after f p =
      turned_keeps m v limit step back under after (applied Add (word_of m.variables.numbers v) step) f p
  next_keeps m (found (call q) under) after f p = p
  next_keeps m (found (again q) under) after f p = p

  repeated_keeps : (m : Machine) (s : Search) (here after : Position) → Fewer (length m.records) s → P m → Leaves P (repeated m s here after)
  repeated_keeps m missing here after f p = pushed_keeps m (again here) (λ n. goes_on n after) p (λ n q. q)
  repeated_keeps m (found r under) here after f p = k.records m (r ∷ under) (λ l. omega arith) p

  pub tested_keeps : (m : Machine) (s : Search) (v : ℕ) (w : Stand) (here after : Position) → Fewer (length m.records) s → P m
      → Leaves P (tested m s v w here after)
  tested_keeps m s v w here after f p =
      by_test (eqb v 0) (λ e. rw e (k.records m (below m.records s) (λ l. omega (arith, below_fewer m.records s f)) p))
      (λ e. rw e (repeated_keeps m s here after f p))

  pub back_keeps : (m : Machine) (s : Search) → Fewer (length m.records) s → P m → Leaves P (turned_back m s)
  back_keeps m missing f p = p
  back_keeps m (found r under) f p = k.records m (r ∷ under) (λ l. omega arith) p

module _ (P : Machine → Type 0) (k : Keeps P) where
  -- ---- working out

  pub worked_keeps : (m : Machine) (o : Outcome) (go : Value → Machine → Next) → m.highest ≤ highest_of o → P m
      → ((v : Value) (room : Room) → o ≡ value v room → P (noting m room) → Leaves P (go v (noting m room)))
      → Leaves P (worked m o go)
  worked_keeps m (value v room) go r p h = h v room refl (k.notes m room r p)
  worked_keeps m (fault e room) go r p h = k.notes m room r p

  pub whole_keeps : (f : Formula) (m : Machine) (go : ℕ → Machine → Next) → P m → ((w : ℕ) (n : Machine) → P n → Leaves P (go w n))
      → Leaves P (worked_whole f m go)
  whole_keeps f m go p h = worked_keeps m (value_of f m.variables (room_of m)) _ (value_rises f m.variables (room_of m)) p (λ v room e q. only v (noting m room) q)
    where
      only : (v : Value) (n : Machine) → P n → Leaves P (whole_only v n (λ w. go w n))
      only (whole w) n q = h w n q
      only (text b) n q = q

  -- ---- assignment

  assigned_keeps : (m : Machine) (f : Formula) (sort : Kind) (name : Telling) (go : Machine → Next) → P m
      → ((n : Machine) → P n → Leaves P (go n))
      → Leaves P (worked m (value_of f m.variables (room_of m)) (λ v n. assigned sort name v n go))
  assigned_keeps m f sort name go p h =
      worked_keeps m (value_of f m.variables (room_of m)) _ (value_rises f m.variables (room_of m)) p (λ v room e q. to sort v room e q)
    where
      to : (x : Kind) (v : Value) (room : Room) → value_of f m.variables (room_of m) ≡ value v room → P (noting m room)
          → Leaves P (assigned x name v (noting m room) go)
      to kind.Whole (whole w) room e q = number_keeps P k.changes (noting m room) name w go q h
      to kind.Whole (text b) room e q = q
      to kind.Text (whole w) room e q = q
      to kind.Text (text b) room e q = string_keeps P k.changes (noting m room) name b go q (λ full. k.strings m name f b room e full p) h

  -- ---- printing

  pub items_keep : (quiet : Bool) (is : List Item) (m : Machine) (go : Machine → Next) → P m → ((n : Machine) → P n → Leaves P (go n))
      → Leaves P (print_items quiet is m go)
  unfolding print_items
  items_keep true [] m go p h = h m p
  items_keep false [] m go p h = written_keeps P k.changes m (13 ∷ 10 ∷ []) go p h
  items_keep quiet (tree.comma ∷ is) m go p h = written_keeps P k.changes m (comma_blanks m) _ p (λ n q. items_keep true is n go q h)
  items_keep quiet (tree.semicolon ∷ is) m go p h = items_keep true is m go p h
  items_keep quiet (tree.shown f ∷ is) m go p h =
      worked_keeps m (value_of f m.variables (room_of m)) _ (value_rises f m.variables (room_of m)) p (λ v room e q.
      written_keeps P k.changes (noting m room) (shown_value v) _ q (λ n r. items_keep false is n go r h))

  -- ---- LINE INPUT

  left_less : (input : List ℕ) → length (take_line input).left ≤ length input
  left_less input = go (lines_from 0 input)
    where
      go : (ls : List Line) → length (first_line input ls).left ≤ length input
      go [] = omega arith
      go (l ∷ ls) = omega (arith, length-drop l.next input)

  filled_keeps : (m : Machine) (b : List ℕ) (sort : Kind) (name : Telling) (go : Machine → Next) → P m → ((n : Machine) → P n → Leaves P (go n))
      → Leaves P (worked m (make b (room_of m)) (λ v n. filled sort name b n go))
  filled_keeps m b sort name go p h = worked_keeps m (make b (room_of m)) _ (make_rises b (room_of m)) p (λ v room e q. to sort v room e q)
    where
      to : (x : Kind) (v : Value) (room : Room) → make b (room_of m) ≡ value v room → P (noting m room) → Leaves P (filled x name b (noting m room) go)
      to kind.Whole v room e q = q
      to kind.Text v room e q = string_keeps P k.changes (noting m room) name b go q (λ full. k.strings m name (tree.text b) b room (made_text b m.variables (room_of m) v room e) full p) h

  taken_keeps : (m : Machine) (v : Variable) (t : Taken) (go : Machine → Next) → length t.left ≤ length m.input → P m
      → ((n : Machine) → P n → Leaves P (go n)) → Leaves P (line_taken m v t go)
  taken_keeps m v t go less p h =
      by_test (ltb longest_input_line (length t.bytes)) (λ e. rw e p)
      (λ e. rw e (filled_keeps _ t.bytes v.kind v.telling go (k.changes.takes m t.left less p) h))

  input_keeps : (input : List ℕ) (m : Machine) (v : Variable) (go : Machine → Next) → m.input ≡ input → P m
      → ((n : Machine) → P n → Leaves P (go n)) → Leaves P (input_line input m v go)
  input_keeps [] m v go e p h = p
  input_keeps (b ∷ s) m v go e p h = taken_keeps m v (take_line (b ∷ s)) go (rw e (left_less (b ∷ s))) p h

  -- ---- READ

  pub given_keeps : (sort : Kind) (name : Telling) (b : List ℕ) (m : Machine) (go : Machine → Next) → P m → ((n : Machine) → P n → Leaves P (go n))
      → Leaves P (given sort name b m go)
  given_keeps kind.Whole name b m go p h = by_number (number_item b)
    where
      by_number : (a : Result ℕ Error) → Leaves P (given_number a name m go)
      by_number (Ok w) = number_keeps P k.changes m name w go p h
      by_number (Err e) = p
  given_keeps kind.Text name b m go p h =
      worked_keeps m (make b (room_of m)) _ (make_rises b (room_of m)) p (λ v room e q.
      string_keeps P k.changes (noting m room) name b go q (λ full. k.strings m name (tree.text b) b room (made_text b m.variables (room_of m) v room e) full p) h)

  pub read_keeps : (vs : List Variable) (m : Machine) (go : Machine → Next) → P m → ((n : Machine) → P n → Leaves P (go n)) → Leaves P (read_items vs m go)
  unfolding read_items
  read_keeps [] m go p h = h m p
  read_keeps (v ∷ vs) m go p h = by_items m.items (λ n q. read_keeps vs n go q h)
    where
      by_items : (l : List (List ℕ)) → ((n : Machine) → P n → Leaves P (read_items vs n go)) → Leaves P (next_item l m (λ b n. given v.kind v.telling b n (λ o. read_items vs o go)))
      by_items [] r = p
      by_items (b ∷ l) r = given_keeps v.kind v.telling b (with_items m l) _ (k.changes.feeds m l p) r

  -- ---- WHILE

  while_keeps : (s : Partner) (at : ℕ) (c : Formula) (m : Machine) (after : Position) → P m → Leaves P (while_by s at c m after)
  while_keeps none at c m after p = p
  while_keeps (some w) at c m after p =
      whole_keeps c m _ p (λ v n q. tested_keeps P k.changes n (sought (is_while (start_of after.lines) at) n.records) v w (here_of at c after) after
      (sought_fewer (is_while (start_of after.lines) at) n.records) q)

  -- ---- all statements

  pub statement_keeps : (program : List ℕ) (at : ℕ) (s : Statement) (m : Machine) (after : Position) → P m → Leaves P (do_statement program at s m after)
  statement_keeps program at tree.empty m after p = p
  statement_keeps program at (tree.assign v f) m after p = assigned_keeps m f v.kind v.telling _ p (λ n q. q)
  statement_keeps program at (tree.print is) m after p = items_keep false is m _ p (λ n q. q)
  statement_keeps program at (tree.if_then c q) m after p =
      whole_keeps c m (λ w n. cond (eqb w 0) (line_over n after.lines) (branch n after.lines q)) p
      (λ w n r. by_test (eqb w 0) (λ e. rw e r) (λ e. rw e r))
  statement_keeps program at (tree.if_else c x y) m after p = whole_keeps c m _ p (λ w n r. r)
  statement_keeps program at (tree.goto l) m after p = line_keeps P k.changes m (from_number l.0 (lines_of program)) _ p (λ ls. p)
  statement_keeps program at (tree.gosub l) m after p =
      line_keeps P k.changes m (from_number l.0 (lines_of program)) _ p (λ ls. pushed_keeps P k.changes m (call after) (λ n. enters n ls) p (λ n q. q))
  statement_keeps program at tree.return m after p = returned_keeps P k.changes m (sought is_call m.records) (sought_fewer is_call m.records) p
  statement_keeps program at (tree.for v from to by) m after p =
      by_test (is_whole_kind v.kind)
      (λ e. rw e
      (whole_keeps from m _ p (λ a n q. whole_keeps to n _ q (λ b o r. whole_keeps by o _ r (λ s x y.
      begun_keeps P k.changes v.telling at after a b s x y)))))
      (λ e. rw e p)
  statement_keeps program at tree.next m after p = next_keeps P k.changes m (sought is_loop m.records) after (sought_fewer is_loop m.records) p
  statement_keeps program at (tree.next_of v) m after p =
      by_test (is_whole_kind v.kind) (λ e. rw e (next_keeps P k.changes m (sought (is_loop_of v.telling) m.records) after (sought_fewer (is_loop_of v.telling) m.records) p)) (λ e. rw e p)
  statement_keeps program at (tree.while c) m after p = while_keeps (wend_for at after.lines) at c m after p
  statement_keeps program at tree.wend m after p =
      back_keeps P k.changes m (sought (is_while_of (start_of after.lines) at) m.records) (sought_fewer (is_while_of (start_of after.lines) at) m.records) p
  statement_keeps program at (tree.line_input t v) m after p = written_keeps P k.changes m t _ p (λ n q. input_keeps n.input n v _ refl q (λ o r. r))
  statement_keeps program at (tree.data_of l) m after p = p
  statement_keeps program at (tree.read vs) m after p = read_keeps vs m _ p (λ n q. q)
  statement_keeps program at tree.restore m after p = k.changes.feeds m _ p
  statement_keeps program at (tree.restore_to l) m after p =
      line_keeps P k.changes m (from_number l.0 (lines_of program)) _ p (λ ls. k.changes.feeds m _ p)
  statement_keeps program at tree.end m after p = p
  statement_keeps program at tree.stop m after p = p
  statement_keeps program at tree.remark m after p = p
