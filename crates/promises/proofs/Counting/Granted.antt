-- A request that a statement is granted is counted, and what was noted once stays.
use mathlib.Core.Path.{◌≡◌}
use mathlib.Core.Bool.{Bool, true, false, cond}
use mathlib.Core.List.{List, ◌∷◌}
use Prim.Native.Nat.{ℕ, ◌+◌, ◌-◌, ◌≤◌}
use native.Mathlib.Omega.{arith}
use borrow.Author.Tests.{le-ltb}
use lib.Dec.{eqb}
use lib.ListN.{length}
use Rattle.words.proofs.Choices.{by_test}
use Rattle.grammar.specs.Trees as tree
use Rattle.grammar.specs.Trees.{Formula, Variable, Item, Statement}
use Rattle.variables.specs.Strings.{make}
use Rattle.variables.specs.Variables.{string_bytes}
use Rattle.operators.specs.Values.{value_of}
use Rattle.machine.specs.Machine.{Position, Machine, room_of, with_input, with_items, noting, comma_blanks, sought, longest_input_line}
use Rattle.machine.specs.Repeats.{start_of, is_while}
use Rattle.turns.specs.Steps.{Next, shown_value, print_items, take_line, input_line, read_items, branch, line_over, do_statement, here_of}
use Rattle.promises.specs.Unfinished.{LiveIsExactFacts}
use Rattle.promises.specs.StringSpace as asks
use Rattle.promises.specs.StringSpace.{Ask, bytes_in, FormulaAsks, PrintAsks, ReadAsks, StatementAsks}
use Rattle.promises.specs.Requests.{at_once, Fits}
use Rattle.promises.proofs.Limits.Keeping.{Leaves, Keeps, string_keeps, written_keeps, begun_keeps, tested_keeps, whole_keeps, items_keep, read_keeps}
use Rattle.promises.proofs.Records.{sought_fewer}
use Rattle.promises.proofs.Fourteen.Statements.{gave_space}
use Rattle.promises.proofs.Counting.Rising.{highest_of, value_rises}
use Rattle.promises.proofs.Counting.Formulas.{make_counts, formula_counts}
use Rattle.promises.proofs.Counting.Noting.{write_same, FitsIn, fits_later, unnoted, worked_notes, whole_notes, assigned_notes, filled_notes}

-- ---- what was noted once stays

abbrev pub AtLeast : ℕ → Machine → Type 0
AtLeast c m = c ≤ m.highest

pub least_kept : (c : ℕ) → Keeps (AtLeast c)
least_kept c = record {
  changes = unnoted (λ h. c ≤ h);
  notes = λ m room h p. omega (arith, h, p);
  strings = λ m name f b room e full p. let h = rw e at (value_rises f m.variables (room_of m)) in omega (arith, h, p);
}

-- ---- a request that is granted is counted

module _ (exact : LiveIsExactFacts) where
  abbrev Counts : Ask → ℕ → Type 0
  Counts k h = at_once k ≤ h

  abbrev P : Ask → Machine → Type 0
  P k = AtLeast (at_once k)

  abbrev kept : (k : Ask) → Keeps (P k)
  kept k = least_kept (at_once k)

  counted : (f : Formula) (m : Machine) (k : Ask) → FormulaAsks f m k → FitsIn m k → Counts k (highest_of (value_of f m.variables (room_of m)))
  counted f m k d h = let c = formula_counts exact m.variables f (room_of m) k d h in omega (arith, c)

  items_count : (quiet : Bool) (is : List Item) (m : Machine) (go : Machine → Next) (k : Ask) → PrintAsks is m k → FitsIn m k
      → ((n : Machine) → P k n → Leaves (P k) (go n)) → Leaves (P k) (print_items quiet is m go)
  unfolding print_items
  items_count quiet (tree.comma ∷ is) m go k (asks.after_comma {n = n} w d) h next =
      rw w (items_count true is n go k d (fits_later k (write_same m (comma_blanks m) n w) h) next)
  items_count quiet (tree.semicolon ∷ is) m go k (asks.after_semicolon d) h next = items_count true is m go k d h next
  items_count quiet (tree.shown f ∷ is) m go k (asks.this_item d) h next =
      worked_notes (Counts k) m (value_of f m.variables (room_of m)) _ (counted f m k d h) (λ v room e q.
      written_keeps (P k) (kept k).changes (noting m room) (shown_value v) _ q (λ n r. items_keep (P k) (kept k) false is n go r next))
  items_count quiet (tree.shown f ∷ is) m go k (asks.after_item {n = n} {v = v} {room = room} e w d) h next =
      rw (e, w) (items_count false is n go k d (fits_later {m = noting m room} k (write_same (noting m room) (shown_value v) n w) h) next)
  items_count quiet mathlib.Core.List.[] m go k x3 h next = elim x3 [ ]

  -- the line of input that was taken
  input_counts : (given : List ℕ) (m : Machine) (v : Variable) (go : Machine → Next) (b : ℕ) (s : List ℕ) → given ≡ b ∷ s
      → length (take_line (b ∷ s)).bytes ≤ longest_input_line
      → string_bytes m.variables.strings + length (take_line (b ∷ s)).bytes ≤ m.space
      → ((n : Machine) → AtLeast 1 n → Leaves (AtLeast 1) (go n)) → Leaves (AtLeast 1) (input_line given m v go)
  input_counts given m v go b s e short h next =
      let line = take_line (b ∷ s) in
      let taken = with_input m line.left (m.taken + (length m.input - length line.left)) in
      let c = make_counts line.bytes (room_of taken) h in
      rw (e, le-ltb longest_input_line (length line.bytes) short)
      (worked_notes (λ n. 1 ≤ n) taken (make line.bytes (room_of taken)) _ (omega (arith, c))
      (λ y room f q. filled_notes (λ n. 1 ≤ n) v.kind v.telling line.bytes (noting taken room) go q next))

  -- a READ's items
  read_counts : (vs : List Variable) (m : Machine) (go : Machine → Next) (o : Machine) (k : Ask) → ReadAsks vs m o k
      → Fits m.space (string_bytes o.variables.strings) k → ((n : Machine) → P k n → Leaves (P k) (go n)) → Leaves (P k) (read_items vs m go)
  unfolding read_items bytes_in
  read_counts (v ∷ vs) m go o k (asks.this_variable {b = b} {l = l} q e) h next =
      let c = make_counts b (room_of (with_items m l)) (omega (arith, h)) in
      rw (e, q)
      (worked_notes (λ n. 1 ≤ n) (with_items m l) (make b (room_of (with_items m l))) _ (omega (arith, c))
      (λ y room f r. string_keeps (P k) (kept k).changes (noting (with_items m l) room) v.telling b (λ p. read_items vs p go) r (λ full. r)
      (λ n t. read_keeps (P k) (kept k) vs n go t next)))
  read_counts (v ∷ vs) m go o k (asks.after_variable {n = n} {b = b} {l = l} e g d) h next =
      let s = gave_space v b (with_items m l) n g in
      rw (e, g (λ p. read_items vs p go)) (read_counts vs n go o k d (rw s h) next)
  read_counts mathlib.Core.List.[] m go o k x3 h next = elim x3 [ ]

  pub statement_counts : (program : List ℕ) (place : ℕ) (s : Statement) (m : Machine) (after : Position) (o : Machine) (k : Ask)
      → StatementAsks after.lines place s m o k → Fits m.space (string_bytes o.variables.strings) k → Leaves (P k) (do_statement program place s m after)
  unfolding bytes_in
  statement_counts program place (tree.assign v f) m after o k (asks.assigned d) h =
      worked_notes (Counts k) m (value_of f m.variables (room_of m)) _ (counted f m k d h)
      (λ x room e q. assigned_notes (Counts k) v.kind v.telling x (noting m room) _ q (λ n r. r))
  statement_counts program place (tree.print is) m after o k (asks.printing d) h = items_count false is m _ k d h (λ n q. q)
  statement_counts program place (tree.if_then c p) m after o k (asks.tested d) h =
      whole_notes (Counts k) c m (λ w n. cond (eqb w 0) (line_over n after.lines) (branch n after.lines p)) (counted c m k d h)
      (λ w room e q. by_test (eqb w 0) (λ t. rw t q) (λ t. rw t q))
  statement_counts program place (tree.if_else c p q) m after o k (asks.chosen d) h = whole_notes (Counts k) c m _ (counted c m k d h) (λ w room e r. r)
  statement_counts program place (tree.for v from to by) m after o k (asks.started t d) h =
      rw t
      (whole_notes (Counts k) from m _ (counted from m k d h) (λ a room e q.
      whole_keeps (P k) (kept k) to (noting m room) _ q (λ b o r.
      whole_keeps (P k) (kept k) by o _ r (λ s x y. begun_keeps (P k) (kept k).changes v.telling place after a b s x y))))
  statement_counts program place (tree.for v from to by) m after o k (asks.limited {a = a} {room = room} t e d) h =
      rw (t, e)
      (whole_notes (Counts k) to (noting m room) _ (counted to (noting m room) k d h) (λ b next f q.
      whole_keeps (P k) (kept k) by (noting m next) _ q (λ s x y. begun_keeps (P k) (kept k).changes v.telling place after a b s x y)))
  statement_counts program place (tree.for v from to by) m after o k (asks.stepped {a = a} {b = b} {next = next} t e c d) h =
      rw (t, e, c)
      (whole_notes (Counts k) by (noting m next) _ (counted by (noting m next) k d h) (λ s last f q.
      begun_keeps (P k) (kept k).changes v.telling place after a b s (noting m last) q))
  statement_counts program place (tree.while c) m after o k (asks.repeated {w = w} e d) h =
      rw e
      (whole_notes (Counts k) c m _ (counted c m k d h) (λ v room f q.
      tested_keeps (P k) (kept k).changes (noting m room) (sought (is_while (start_of after.lines) place) m.records) v w (here_of place c after) after (sought_fewer (is_while (start_of after.lines) place) m.records) q))
  statement_counts program place (tree.line_input t v) m after o k (asks.input {n = n} {b = b} {s = s} w e short) h =
      let x = fits_later {m = m} {n = n} k (write_same m t n w) h in
      rw w (input_counts n.input n v _ b s e short (omega (arith, x)) (λ o q. q))
  statement_counts program place (tree.read vs) m after o k (asks.reading d) h = read_counts vs m _ o k d h (λ n q. q)
  statement_counts program place tree.empty m after o k x'' h = elim x'' [ ]
  statement_counts program place (tree.goto _) m after o k x4 h = elim x4 [ ]
  statement_counts program place (tree.gosub _) m after o k x5 h = elim x5 [ ]
  statement_counts program place tree.return m after o k x5 h = elim x5 [ ]
  statement_counts program place tree.next m after o k x6 h = elim x6 [ ]
  statement_counts program place (tree.next_of _) m after o k x8 h = elim x8 [ ]
  statement_counts program place tree.wend m after o k x8 h = elim x8 [ ]
  statement_counts program place (tree.data_of _) m after o k x10 h = elim x10 [ ]
  statement_counts program place tree.restore m after o k x10 h = elim x10 [ ]
  statement_counts program place (tree.restore_to _) m after o k x12 h = elim x12 [ ]
  statement_counts program place tree.end m after o k x12 h = elim x12 [ ]
  statement_counts program place tree.stop m after o k x13 h = elim x13 [ ]
  statement_counts program place tree.remark m after o k x14 h = elim x14 [ ]
