-- A run ends in 14 exactly when a statement of it asks for more than the space holds besides what is live.
use Rattle.std.specs.Prelude.{Err, Ok, Result, ℕ}
use Rattle.whole.specs.declared.errors.Error.{Error}
use mathlib.Core.Path.{◌≡◌, refl, ap, ◌∙◌}
use mathlib.Core.Bool.{Bool, true, false, cond}
use mathlib.Core.List.{List, [], ◌∷◌, ◌++◌}
use Prim.Native.Nat.{ℕ, ◌+◌, ◌-◌, ◌≤◌, ◌<◌}
use native.Mathlib.Omega.{arith}
use borrow.Author.Tests.{ltb-false, le-ltb}
use lib.Dec.{ltb, leb, eqb}
use lib.ListN.{length}
use Rattle.whole.specs.Digits.{number_item}
use Rattle.whole.specs.Whole.{applied}
use Rattle.whole.specs.declared.arithmetic.Operator.TheVariants.{Add}
use Rattle.whole.specs.declared.errors.Error.TheVariants.{OutOfStringSpace}
use Rattle.words.specs.declared.names.Kind.{Kind}
use Rattle.words.specs.declared.names.Kind.TheVariants as kind
use Rattle.words.specs.Names.{Telling}
use Rattle.words.proofs.Choices.{by_test}
use Rattle.loader.specs.Lines.{Line, lines_of, from_number}
use Rattle.grammar.specs.Trees as tree
use Rattle.grammar.specs.Trees.{Formula, Variable, Item, Statement}
use Rattle.variables.specs.Strings.{Value, whole, text, Room, Outcome, value, fault, make}
use Rattle.variables.specs.Variables.{Variables, word_of, string_bytes, numbers_full, strings_full}
use Rattle.operators.specs.Values.{value_of}
use Rattle.machine.specs.Machine.{Position, Record, loop, call, again, Machine, room_of, with_records, with_output, with_input, with_items, noting, column_after, Printed, full, printed, write, comma_blanks, is_call, is_loop, is_loop_of, Search, missing, found, sought, passed, longest_input_line}
use Rattle.machine.specs.Order.{Stand, Partner, none, some, next_for, wend_for}
use Rattle.machine.specs.Repeats.{start_of, is_while, is_while_of}
use Rattle.statements.specs.Parts.{head_of}
use Rattle.turns.specs.Steps.{Next, goes_on, enters, ends, stops, fails, worked, whole_only, worked_whole, with_number, with_string, store_number, store_string, assigned, written, shown_value, print_items, to_line, pushed, returned, cleared, begun, turned, next_on, Taken, take_line, filled, line_taken, input_line, given_number, given, next_item, read_items, is_whole_kind, branch, line_over, do_statement, names_other, skipped, here_of, repeated, tested, while_by, turned_back}
use Rattle.promises.specs.Unfinished.{LiveIsExactFacts}
use Rattle.promises.specs.StringSpace as asks
use Rattle.promises.specs.StringSpace.{Ask, bytes_in, Exceeds, FormulaAsks, PrintAsks, Gave, ReadAsks, StatementAsks}
use Rattle.whole.proofs.Never.{never}
use Rattle.promises.proofs.Fourteen.Rooms.{Spares, applied_spares, number_spares}
use Rattle.promises.proofs.Fourteen.Formulas.{make_over, make_refused, formula_over, formula_fails}
use Rattle.promises.proofs.Loops.{looped}

-- ---- a statement that ends in 14 tells that it asked for too much

-- what is known where a statement came to 14
abbrev Tells : Type 0 → Next → Type 0
Tells X (goes_on m p) = Unit {0}
Tells X (enters m lines) = Unit {0}
Tells X (ends m) = Unit {0}
Tells X (stops m) = Unit {0}
Tells X (fails e m) = e ≡ OutOfStringSpace → X

pub told : {X : Type 0} (x : Next) (n : Machine) → Tells X x → x ≡ fails OutOfStringSpace n → X
told (goes_on m p) n h e = never (cc)
told (enters m lines) n h e = never (cc)
told (ends m) n h e = never (cc)
told (stops m) n h e = never (cc)
told (fails x m) n h e = h (cc)

-- what a machine asks for is more than there is
abbrev Over : Machine → Ask → Type 0
Over m k = Exceeds m.space (string_bytes m.variables.strings) k

-- printing changes neither the variables nor the space
record Same (m n : Machine) : Type 0 where
  space : n.space ≡ m.space
  variables : n.variables ≡ m.variables

write_same : (m : Machine) (bytes : List ℕ) (n : Machine) → write m bytes ≡ printed n → Same m n
unfolding write
write_same m bytes n e =
    by_test (ltb m.output_room (length m.output + length bytes))
    (λ t. let f = rw t at e in never (cc))
    (λ t. let f = rw t at e in let g : n ≡ with_output m (m.output ++ bytes) (column_after m.column bytes) = cc in
    record { space = ap (λ (x : Machine). x.space) g; variables = ap (λ (x : Machine). x.variables) g })

over_before : {m n : Machine} (k : Ask) → Same m n → Over n k → Over m k
over_before k s h = let e = ap (λ (v : Variables). string_bytes v.strings) s.variables in omega (arith, h, e, s.space)

over_after : {m n : Machine} (k : Ask) → Same m n → Over m k → Over n k
over_after k s h = let e = ap (λ (v : Variables). string_bytes v.strings) s.variables in omega (arith, h, e, s.space)

module _ (X : Type 0) where
  worked_tells : (m : Machine) (o : Outcome) (go : Value → Machine → Next) → ((room : Room) → o ≡ fault OutOfStringSpace room → X)
      → ((v : Value) (room : Room) → o ≡ value v room → Tells X (go v (noting m room))) → Tells X (worked m o go)
  worked_tells m (value v room) go over h = h v room refl
  worked_tells m (fault e room) go over h = λ t. over room (ap (λ x. fault x room) t)

  whole_tells : (f : Formula) (m : Machine) (go : ℕ → Machine → Next)
      → ((room : Room) → value_of f m.variables (room_of m) ≡ fault OutOfStringSpace room → X)
      → ((w : ℕ) (room : Room) → value_of f m.variables (room_of m) ≡ value (whole w) room → Tells X (go w (noting m room)))
      → Tells X (worked_whole f m go)
  whole_tells f m go over h = worked_tells m (value_of f m.variables (room_of m)) _ over only
    where
      only : (v : Value) (room : Room) → value_of f m.variables (room_of m) ≡ value v room
          → Tells X (whole_only v (noting m room) (λ w. go w (noting m room)))
      only (whole w) room e = h w room e
      only (text b) room e = λ t. never (cc)

  number_tells : (m : Machine) (name : Telling) (w : ℕ) (go : Machine → Next) → ((n : Machine) → Tells X (go n)) → Tells X (store_number m name w go)
  number_tells m name w go h =
      by_test (numbers_full m.variables.numbers name)
      (λ e. rw e (λ t. never (cc))) (λ e. rw e (h (with_number m name w)))

  string_tells : (m : Machine) (name : Telling) (b : List ℕ) (go : Machine → Next) → ((n : Machine) → Tells X (go n)) → Tells X (store_string m name b go)
  string_tells m name b go h =
      by_test (strings_full m.variables.strings name)
      (λ e. rw e (λ t. never (cc))) (λ e. rw e (h (with_string m name b)))

  assigned_tells : (sort : Kind) (name : Telling) (v : Value) (m : Machine) (go : Machine → Next) → ((n : Machine) → Tells X (go n))
      → Tells X (assigned sort name v m go)
  assigned_tells kind.Whole name (whole w) m go h = number_tells m name w go h
  assigned_tells kind.Whole name (text b) m go h = λ t. never (cc)
  assigned_tells kind.Text name (whole w) m go h = λ t. never (cc)
  assigned_tells kind.Text name (text b) m go h = string_tells m name b go h

  written_tells : (m : Machine) (bytes : List ℕ) (go : Machine → Next) → ((n : Machine) → write m bytes ≡ printed n → Tells X (go n))
      → Tells X (written m bytes go)
  written_tells m bytes go h = by (write m bytes) refl
    where
      by : (x : Printed) → write m bytes ≡ x → Tells X (written m bytes go)
      by full e = rw e (λ t. never (cc))
      by (printed n) e = rw e (h n e)

  line_tells : (m : Machine) (lines : List Line) (go : List Line → Next) → ((ls : List Line) → Tells X (go ls)) → Tells X (to_line m lines go)
  line_tells m [] go h = λ t. never (cc)
  line_tells m (l ∷ ls) go h = h (l ∷ ls)

  pushed_tells : (m : Machine) (r : Record) (go : Machine → Next) → ((n : Machine) → Tells X (go n)) → Tells X (pushed m r go)
  pushed_tells m r go h =
      by_test (leb m.record_room (length m.records))
      (λ e. rw e (λ t. never (cc))) (λ e. rw e (h (with_records m (r ∷ m.records))))

  returned_tells : (m : Machine) (s : Search) → Tells X (returned m s)
  returned_tells m missing = λ t. never (cc)
  returned_tells m (found r under) = tt

  skipped_tells : (name : Telling) (s : Partner) (m : Machine) → Tells X (skipped name s m)
  skipped_tells name none m = λ t. never (cc)
  skipped_tells name (some x) m = by_test (names_other name (head_of x.part)) (λ e. rw e (λ t. never (cc))) (λ e. rw e tt)

  begun_tells : (name : Telling) (at : ℕ) (after : Position) (start limit step : ℕ) (m : Machine) → Tells X (begun name at after start limit step m)
  begun_tells name at after start limit step m =
      number_tells m name start (looped name at after start limit step) (λ n.
      by_test (passed start limit step)
      (λ e. rw e (skipped_tells name (next_for at after.lines) (cleared name n)))
      (λ e. rw e (pushed_tells (cleared name n) (loop name limit step after) (λ o. goes_on o after) (λ o. tt))))

  turned_tells : (m : Machine) (v : Telling) (limit step : ℕ) (back : Position) (under : List Record) (after : Position) (a : Result ℕ Error) → Spares a
      → Tells X (turned m v limit step back under after a)
  turned_tells m v limit step back under after (Ok w) h =
      number_tells m v w
      (λ n. cond (passed w limit step) (goes_on (with_records n under) after) (goes_on (with_records n (loop v limit step back ∷ under)) back))
      (λ n. by_test (passed w limit step) (λ e. rw e tt) (λ e. rw e tt))
  turned_tells m v limit step back under after (Err x) h = λ t. absurd (h t)

  next_tells : (m : Machine) (s : Search) (after : Position) → Tells X (next_on m s after)
  next_tells m missing after = λ t. never (cc)
  next_tells m (found (loop v limit step back) under) after =
      turned_tells m v limit step back under after (applied Add (word_of m.variables.numbers v) step)
      (applied_spares Add (word_of m.variables.numbers v) step)
  next_tells m (found (call q) under) after = λ t. never (cc)
  next_tells m (found (again q) under) after = λ t. never (cc)

  repeated_tells : (m : Machine) (s : Search) (here after : Position) → Tells X (repeated m s here after)
  repeated_tells m missing here after = pushed_tells m (again here) (λ n. goes_on n after) (λ n. tt)
  repeated_tells m (found r under) here after = tt

  tested_tells : (m : Machine) (s : Search) (v : ℕ) (w : Stand) (here after : Position) → Tells X (tested m s v w here after)
  tested_tells m s v w here after = by_test (eqb v 0) (λ e. rw e tt) (λ e. rw e (repeated_tells m s here after))

  back_tells : (m : Machine) (s : Search) → Tells X (turned_back m s)
  back_tells m missing = λ t. never (cc)
  back_tells m (found r under) = tt

  filled_tells : (sort : Kind) (name : Telling) (b : List ℕ) (m : Machine) (go : Machine → Next) → ((n : Machine) → Tells X (go n))
      → Tells X (filled sort name b m go)
  filled_tells kind.Whole name b m go h = λ t. never (cc)
  filled_tells kind.Text name b m go h = string_tells m name b go h

  -- the line of input that was taken asks for its bytes
  taken_tells : (m : Machine) (v : Variable) (t : Taken) (go : Machine → Next)
      → (length t.bytes ≤ longest_input_line → m.space < string_bytes m.variables.strings + length t.bytes → X)
      → ((n : Machine) → Tells X (go n)) → Tells X (line_taken m v t go)
  taken_tells m v t go over h =
      by_test (ltb longest_input_line (length t.bytes)) (λ e. rw e (λ x. never (cc)))
      (λ e. rw e
      (worked_tells (with_input m t.left (m.taken + (length m.input - length t.left))) (make t.bytes (room_of m)) _ (λ room f. over (ltb-false _ _ e) (make_over t.bytes (room_of m) f))
      (λ b room f. filled_tells v.kind v.telling t.bytes _ go h)))

  input_tells : (given : List ℕ) (m : Machine) (v : Variable) (go : Machine → Next)
      → ((b : ℕ) (s : List ℕ) → given ≡ b ∷ s → length (take_line (b ∷ s)).bytes ≤ longest_input_line
      → m.space < string_bytes m.variables.strings + length (take_line (b ∷ s)).bytes → X)
      → ((n : Machine) → Tells X (go n)) → Tells X (input_line given m v go)
  input_tells [] m v go over h = λ t. never (cc)
  input_tells (b ∷ s) m v go over h = taken_tells m v (take_line (b ∷ s)) go (over b s refl) h

-- what a statement leaves has so much space
abbrev SpaceIs : ℕ → Next → Type 0
SpaceIs s (goes_on m p) = m.space ≡ s
SpaceIs s (enters m lines) = m.space ≡ s
SpaceIs s (ends m) = m.space ≡ s
SpaceIs s (stops m) = m.space ≡ s
SpaceIs s (fails e m) = m.space ≡ s

module _ (m : Machine) (name : Telling) (b : List ℕ) where
  number_space : (a : Result ℕ Error) → SpaceIs m.space (given_number a name m ends)
  number_space (Ok w) = by_test (numbers_full m.variables.numbers name) (λ t. rw t refl) (λ t. rw t refl)
  number_space (Err e) = refl

  made_space : (o : Outcome) → SpaceIs m.space (worked m o (λ x n. store_string n name b ends))
  made_space (value y room) = by_test (strings_full m.variables.strings name) (λ t. rw t refl) (λ t. rw t refl)
  made_space (fault e room) = refl

  given_space : (k : Kind) → SpaceIs m.space (given k name b m ends)
  given_space kind.Whole = number_space (number_item b)
  given_space kind.Text = made_space (make b (room_of m))

-- setting a variable leaves the space
pub gave_space : (v : Variable) (b : List ℕ) (m n : Machine) → Gave v b m n → n.space ≡ m.space
gave_space v b m n g = rw (g ends) at (given_space m v.telling b v.kind)

-- ---- statements

module _ (exact : LiveIsExactFacts) where
  pub record StatementOver (lines : List Line) (at : ℕ) (s : Statement) (m : Machine) : Type 0 where
    pub asking : Machine
    pub ask : Ask
    pub asks : StatementAsks lines at s m asking ask
    pub exceeds : Exceeds m.space (string_bytes asking.variables.strings) ask

  -- of a formula that it works out
  formula_tells : {X : Type 0} (f : Formula) (m : Machine) → ((k : Ask) → FormulaAsks f m k → Over m k → X)
      → (room : Room) → value_of f m.variables (room_of m) ≡ fault OutOfStringSpace room → X
  formula_tells f m h room e = let y = formula_over exact m.variables f (room_of m) room e in h y.ask y.asks y.exceeds

  items_tell : (X : Type 0) (quiet : Bool) (is : List Item) (m : Machine) (go : Machine → Next)
      → ((k : Ask) → PrintAsks is m k → Over m k → X) → ((n : Machine) → Tells X (go n)) → Tells X (print_items quiet is m go)
  unfolding print_items
  items_tell X true [] m go over h = h m
  items_tell X false [] m go over h = written_tells X m (13 ∷ 10 ∷ []) go (λ n e. h n)
  items_tell X quiet (tree.comma ∷ is) m go over h =
      written_tells X m (comma_blanks m) _ (λ n e.
      items_tell X true is n go (λ k d x. over k (asks.after_comma e d) (over_before k (write_same m (comma_blanks m) n e) x)) h)
  items_tell X quiet (tree.semicolon ∷ is) m go over h = items_tell X true is m go (λ k d x. over k (asks.after_semicolon d) x) h
  items_tell X quiet (tree.shown f ∷ is) m go over h =
      worked_tells X m (value_of f m.variables (room_of m)) _ (formula_tells f m (λ k d x. over k (asks.this_item d) x))
      (λ v room e. written_tells X (noting m room) (shown_value v) _ (λ n w.
      items_tell X false is n go
      (λ k d x. over k (asks.after_item e w d) (over_before {m = noting m room} k (write_same (noting m room) (shown_value v) n w) x)) h))

  -- a WHILE's condition is worked out where it has its WEND
  while_tells : (at : ℕ) (c : Formula) (m : Machine) (after : Position) (p : Partner) → wend_for at after.lines ≡ p
      → Tells (StatementOver after.lines at (tree.while c) m) (while_by p at c m after)
  while_tells at c m after none e = λ t. never (cc)
  while_tells at c m after (some w) e =
      whole_tells (StatementOver after.lines at (tree.while c) m) c m _
      (formula_tells c m (λ k d x. record { asking = m; ask = k; asks = asks.repeated e d; exceeds = x }))
      (λ v room f. tested_tells _ (noting m room) (sought (is_while (start_of after.lines) at) m.records) v w (here_of at c after) after)

  -- a READ's items are given one by one
  module _ (X : Type 0) (space : ℕ) where
    given_tells : (v : Variable) (b : List ℕ) (m : Machine) (go : Machine → Next) → m.space ≡ space
        → (v.kind ≡ kind.Text → space < string_bytes m.variables.strings + length b → X)
        → ((n : Machine) → Gave v b m n → n.space ≡ space → Tells X (go n)) → Tells X (given v.kind v.telling b m go)
    given_tells v b m go s over h = by_kind v.kind refl
      where
        by_number : (a : Result ℕ Error) → number_item b ≡ a → Spares a → v.kind ≡ kind.Whole → Tells X (given_number a v.telling m go)
        by_number (Ok w) e p q =
            by_test (numbers_full m.variables.numbers v.telling) (λ t. rw t (λ x. never (cc)))
            (λ t. rw t (h (with_number m v.telling w) (λ g. rw (q, e, t)) s))
        by_number (Err x) e p q = λ t. absurd (p t)

        by_made : (o : Outcome) → make b (room_of m) ≡ o → v.kind ≡ kind.Text → Tells X (worked m o (λ x n. store_string n v.telling b go))
        by_made (value y room) e q =
            by_test (strings_full m.variables.strings v.telling) (λ t. rw t (λ x. never (cc)))
            (λ t. rw t (h (with_string (noting m room) v.telling b) (λ g. rw (q, e, t)) s))
        by_made (fault x room) e q = λ t. over q (rw s at (make_over b (room_of m) (e ∙ ap (λ y. fault y room) t)))

        by_kind : (k : Kind) → v.kind ≡ k → Tells X (given k v.telling b m go)
        by_kind kind.Whole q = by_number (number_item b) refl (number_spares b) q
        by_kind kind.Text q = by_made (make b (room_of m)) refl q

    read_tells : (vs : List Variable) (m : Machine) (go : Machine → Next) → m.space ≡ space
        → ((n : Machine) (k : Ask) → ReadAsks vs m n k → Exceeds space (string_bytes n.variables.strings) k → X)
        → ((n : Machine) → Tells X (go n)) → Tells X (read_items vs m go)
    unfolding read_items bytes_in
    read_tells [] m go s over h = h m
    read_tells (v ∷ vs) m go s over h =
        by_items m.items refl (λ n t more. read_tells vs n go t more h)
      where
        by_items : (l : List (List ℕ)) → m.items ≡ l
            → ((n : Machine) → n.space ≡ space → ((o : Machine) (k : Ask) → ReadAsks vs n o k → Exceeds space (string_bytes o.variables.strings) k → X)
            → Tells X (read_items vs n go))
            → Tells X (next_item l m (λ b n. given v.kind v.telling b n (λ o. read_items vs o go)))
        by_items [] e r = λ t. never (cc)
        by_items (b ∷ l) e r =
            given_tells v b (with_items m l) _ s
            (λ q x. over m (record { unfinished = []; bytes = b }) (asks.this_variable q e) (omega (arith, x)))
            (λ n g t. r n t (λ o k d x. over o k (asks.after_variable e g d) x))

  pub statement_tells : (program : List ℕ) (at : ℕ) (s : Statement) (m : Machine) (after : Position)
      → Tells (StatementOver after.lines at s m) (do_statement program at s m after)
  unfolding bytes_in
  statement_tells program at tree.empty m after = tt
  statement_tells program at (tree.assign v f) m after =
      worked_tells (StatementOver after.lines at (tree.assign v f) m) m (value_of f m.variables (room_of m)) _
      (formula_tells f m (λ k d x. record { asking = m; ask = k; asks = asks.assigned d; exceeds = x }))
      (λ x room e. assigned_tells _ v.kind v.telling x (noting m room) _ (λ n. tt))
  statement_tells program at (tree.print is) m after =
      items_tell (StatementOver after.lines at (tree.print is) m) false is m _ (λ k d x. record { asking = m; ask = k; asks = asks.printing d; exceeds = x }) (λ n. tt)
  statement_tells program at (tree.if_then c p) m after =
      whole_tells (StatementOver after.lines at (tree.if_then c p) m) c m (λ w n. cond (eqb w 0) (line_over n after.lines) (branch n after.lines p))
      (formula_tells c m (λ k d x. record { asking = m; ask = k; asks = asks.tested d; exceeds = x }))
      (λ w room e. by_test (eqb w 0) (λ t. rw t tt) (λ t. rw t tt))
  statement_tells program at (tree.if_else c p q) m after =
      whole_tells (StatementOver after.lines at (tree.if_else c p q) m) c m _
      (formula_tells c m (λ k d x. record { asking = m; ask = k; asks = asks.chosen d; exceeds = x })) (λ w room e. tt)
  statement_tells program at (tree.goto l) m after = line_tells _ m (from_number l.0 (lines_of program)) _ (λ ls. tt)
  statement_tells program at (tree.gosub l) m after =
      line_tells _ m (from_number l.0 (lines_of program)) _ (λ ls. pushed_tells _ m (call after) (λ n. enters n ls) (λ n. tt))
  statement_tells program at tree.return m after = returned_tells _ m (sought is_call m.records)
  statement_tells program at (tree.for v from to by) m after =
      by_test (is_whole_kind v.kind)
      (λ t. rw t
      (whole_tells (StatementOver after.lines at (tree.for v from to by) m) from m _
      (formula_tells from m (λ k d x. record { asking = m; ask = k; asks = asks.started t d; exceeds = x })) (λ a room e.
      whole_tells (StatementOver after.lines at (tree.for v from to by) m) to (noting m room) _
      (formula_tells to (noting m room) (λ k d x. record { asking = m; ask = k; asks = asks.limited t e d; exceeds = x })) (λ b next d.
      whole_tells (StatementOver after.lines at (tree.for v from to by) m) by (noting m next) _
      (formula_tells by (noting m next) (λ k c x. record { asking = m; ask = k; asks = asks.stepped t e d c; exceeds = x })) (λ s last c.
      begun_tells (StatementOver after.lines at (tree.for v from to by) m) v.telling at after a b s (noting m last))))))
      (λ t. rw t (λ x. never (cc)))
  statement_tells program at tree.next m after = next_tells _ m (sought is_loop m.records) after
  statement_tells program at (tree.next_of v) m after =
      by_test (is_whole_kind v.kind) (λ t. rw t (next_tells _ m (sought (is_loop_of v.telling) m.records) after))
      (λ t. rw t (λ x. never (cc)))
  statement_tells program at (tree.while c) m after = while_tells at c m after (wend_for at after.lines) refl
  statement_tells program at tree.wend m after = back_tells _ m (sought (is_while_of (start_of after.lines) at) m.records)
  statement_tells program at (tree.line_input t v) m after =
      written_tells (StatementOver after.lines at (tree.line_input t v) m) m t _ (λ n w.
      input_tells _ n.input n v _
      (λ b s e short x.
      let k : Ask = record { unfinished = []; bytes = (take_line (b ∷ s)).bytes } in
      record { asking = m; ask = k; asks = asks.input w e short; exceeds = over_before k (write_same m t n w) (omega (arith, x)) })
      (λ o. tt))
  statement_tells program at (tree.data_of l) m after = tt
  statement_tells program at (tree.read vs) m after =
      read_tells (StatementOver after.lines at (tree.read vs) m) m.space vs m _ refl
      (λ n k d x. record { asking = n; ask = k; asks = asks.reading d; exceeds = x }) (λ n. tt)
  statement_tells program at tree.restore m after = tt
  statement_tells program at (tree.restore_to l) m after = line_tells _ m (from_number l.0 (lines_of program)) _ (λ ls. tt)
  statement_tells program at tree.end m after = tt
  statement_tells program at tree.stop m after = tt
  statement_tells program at tree.remark m after = tt

  -- ---- and one that asks for too much ends in 14

  abbrev pub StatementFails : List ℕ → ℕ → Statement → Machine → Position → Type 0
  StatementFails program at s m after = (n : Machine) × (do_statement program at s m after ≡ fails OutOfStringSpace n)

  formula_refused : (f : Formula) (m : Machine) (k : Ask) → FormulaAsks f m k → Over m k
      → (room : Room) × (value_of f m.variables (room_of m) ≡ fault OutOfStringSpace room)
  formula_refused f m k d h = formula_fails exact m.variables f (room_of m) k d h

  items_fail : (quiet : Bool) (is : List Item) (m : Machine) (go : Machine → Next) (k : Ask) → PrintAsks is m k → Over m k
      → (n : Machine) × (print_items quiet is m go ≡ fails OutOfStringSpace n)
  unfolding print_items
  items_fail quiet (tree.comma ∷ is) m go k (asks.after_comma {n = n} w d) h =
      let y = items_fail true is n go k d (over_after k (write_same m (comma_blanks m) n w) h) in (y.0, rw w y.1)
  items_fail quiet (tree.semicolon ∷ is) m go k (asks.after_semicolon d) h = items_fail true is m go k d h
  items_fail quiet (tree.shown f ∷ is) m go k (asks.this_item d) h =
      let y = formula_refused f m k d h in (noting m y.0, rw y.1)
  items_fail quiet (tree.shown f ∷ is) m go k (asks.after_item {n = n} {v = v} {room = room} e w d) h =
      let y = items_fail false is n go k d (over_after {m = noting m room} k (write_same (noting m room) (shown_value v) n w) h) in
      (y.0, rw (e, w) y.1)
  items_fail quiet [] m go k x'' h = elim x'' [ ]

  read_fails : (vs : List Variable) (m : Machine) (go : Machine → Next) (n : Machine) (k : Ask) → ReadAsks vs m n k
      → Exceeds m.space (string_bytes n.variables.strings) k → (o : Machine) × (read_items vs m go ≡ fails OutOfStringSpace o)
  unfolding read_items bytes_in
  read_fails (v ∷ vs) m go n k (asks.this_variable {b = b} {l = l} q e) h =
      let r = make_refused b (room_of (with_items m l)) (omega (arith, h)) in
      (noting (with_items m l) (room_of (with_items m l)), rw (e, q, r))
  read_fails (v ∷ vs) m go n k (asks.after_variable {n = o} {b = b} {l = l} e g d) h =
      let s = gave_space v b (with_items m l) o g in
      let y = read_fails vs o go n k d (rw s h) in
      (y.0, rw e (g (λ p. read_items vs p go) ∙ y.1))
  read_fails [] m go n k x'' h = elim x'' [ ]

  pub statement_fails : (program : List ℕ) (at : ℕ) (s : Statement) (m : Machine) (after : Position) (n : Machine) (k : Ask) → StatementAsks after.lines at s m n k
      → Exceeds m.space (string_bytes n.variables.strings) k → StatementFails program at s m after
  unfolding bytes_in
  statement_fails program at (tree.assign v f) m after o k (asks.assigned d) h = let y = formula_refused f m k d h in (noting m y.0, rw y.1)
  statement_fails program at (tree.print is) m after o k (asks.printing d) h = items_fail false is m _ k d h
  statement_fails program at (tree.if_then c p) m after o k (asks.tested d) h = let y = formula_refused c m k d h in (noting m y.0, rw y.1)
  statement_fails program at (tree.if_else c p q) m after o k (asks.chosen d) h = let y = formula_refused c m k d h in (noting m y.0, rw y.1)
  statement_fails program at (tree.for v from to by) m after o k (asks.started t d) h =
      let y = formula_refused from m k d h in (noting m y.0, rw (t, y.1))
  statement_fails program at (tree.for v from to by) m after o k (asks.limited {room = room} t e d) h =
      let y = formula_refused to (noting m room) k d h in (noting m y.0, rw (t, e, y.1))
  statement_fails program at (tree.for v from to by) m after o k (asks.stepped {next = next} t e c d) h =
      let y = formula_refused by (noting m next) k d h in (noting m y.0, rw (t, e, c, y.1))
  statement_fails program at (tree.while c) m after o k (asks.repeated e d) h = let y = formula_refused c m k d h in (noting m y.0, rw (e, y.1))
  statement_fails program at (tree.line_input t v) m after o k (asks.input {n = n} {b = b} {s = s} w e short) h =
      let line = take_line (b ∷ s) in
      let taken = with_input n line.left (n.taken + (length n.input - length line.left)) in
      let x = over_after {m = m} {n = n} (record { unfinished = []; bytes = line.bytes }) (write_same m t n w) h in
      let refused = make_refused line.bytes (room_of taken) (omega (arith, x)) in
      (noting taken (room_of taken), rw (w, e, le-ltb longest_input_line (length line.bytes) short, refused))
  statement_fails program at (tree.read vs) m after o k (asks.reading d) h = read_fails vs m _ o k d h
  statement_fails program at tree.empty m after o k x'' h = elim x'' [ ]
  statement_fails program at (tree.goto _) m after o k x4 h = elim x4 [ ]
  statement_fails program at (tree.gosub _) m after o k x5 h = elim x5 [ ]
  statement_fails program at tree.return m after o k x5 h = elim x5 [ ]
  statement_fails program at tree.next m after o k x6 h = elim x6 [ ]
  statement_fails program at (tree.next_of _) m after o k x8 h = elim x8 [ ]
  statement_fails program at tree.wend m after o k x8 h = elim x8 [ ]
  statement_fails program at (tree.data_of _) m after o k x10 h = elim x10 [ ]
  statement_fails program at tree.restore m after o k x10 h = elim x10 [ ]
  statement_fails program at (tree.restore_to _) m after o k x12 h = elim x12 [ ]
  statement_fails program at tree.end m after o k x12 h = elim x12 [ ]
  statement_fails program at tree.stop m after o k x13 h = elim x13 [ ]
  statement_fails program at tree.remark m after o k x14 h = elim x14 [ ]
