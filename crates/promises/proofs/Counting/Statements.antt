-- Whatever a statement notes was noted before, or is the count of a request that it was granted.
use Rattle.std.specs.Prelude.{Err, Ok, Result, ℕ}
use Rattle.whole.specs.declared.errors.Error.{Error}
use mathlib.Core.Path.{◌≡◌, refl}
use mathlib.Core.Bool.{Bool, true, false, cond}
use mathlib.Core.List.{List, [], ◌∷◌}
use mathlib.Core.Logic.{inl}
use Prim.Native.Nat.{ℕ, ◌+◌, ◌-◌, ◌≤◌}
use native.Mathlib.Omega.{arith}
use borrow.Author.Tests.{ltb-false}
use lib.Dec.{ltb, eqb}
use lib.ListN.{length}
use Rattle.whole.specs.Digits.{number_item}
use Rattle.words.specs.declared.names.Kind.{Kind}
use Rattle.words.specs.declared.names.Kind.TheVariants as kind
use Rattle.words.proofs.Choices.{by_test}
use Rattle.loader.specs.Lines.{Line, lines_of, from_number}
use Rattle.grammar.specs.Trees as tree
use Rattle.grammar.specs.Trees.{Formula, Variable, Item, Statement}
use Rattle.variables.specs.Strings.{make}
use Rattle.variables.specs.Variables.{string_bytes, numbers_full, strings_full}
use Rattle.operators.specs.Values.{value_of}
use Rattle.machine.specs.Machine.{Position, call, Machine, room_of, with_input, with_items, noting, comma_blanks, is_call, is_loop, is_loop_of, sought, longest_input_line}
use Rattle.machine.specs.Order.{Partner, none, some, wend_for}
use Rattle.machine.specs.Repeats.{start_of, is_while, is_while_of}
use Rattle.turns.specs.Steps.{Next, enters, with_number, with_string, shown_value, print_items, take_line, input_line, given_number, given, next_item, read_items, is_whole_kind, branch, line_over, do_statement, here_of, while_by}
use Rattle.promises.specs.Unfinished.{LiveIsExactFacts}
use Rattle.promises.specs.StringSpace as asks
use Rattle.promises.specs.StringSpace.{Ask, bytes_in, FormulaAsks, PrintAsks, Gave, ReadAsks, StatementAsks}
use Rattle.promises.specs.Requests.{at_once, Fits}
use Rattle.promises.proofs.Limits.Keeping.{line_keeps, pushed_keeps, returned_keeps, begun_keeps, tested_keeps, back_keeps, next_keeps}
use Rattle.promises.proofs.Records.{sought_fewer}
use Rattle.promises.proofs.Counting.Rising.{highest_of}
use Rattle.promises.proofs.Counting.Raising.{Raised, raised_on, raised_as, make_raised}
use Rattle.promises.proofs.Counting.Asked.{AskedBy, formula_raised}
use Rattle.promises.proofs.Counting.Noting.{write_same, FitsIn, fits_earlier, Notes, unnoted, worked_notes, whole_notes, assigned_notes, filled_notes, written_notes}

module _ (exact : LiveIsExactFacts) (X : ℕ → Type 0) (first : ℕ) where
  abbrev Q : ℕ → Type 0
  Q h = Raised X first h

  -- of a formula
  told : (f : Formula) (m : Machine) → ((k : Ask) → FormulaAsks f m k → FitsIn m k → X (at_once k)) → Q m.highest
      → Q (highest_of (value_of f m.variables (room_of m)))
  told f m give q =
      raised_on X q
      (raised_as (AskedBy exact m.variables f (room_of m)) X
      (λ n y. let e : at_once y.ask ≡ n = omega (arith, y.counted) in rw e at (give y.ask y.asks y.fits))
      (formula_raised exact m.variables f (room_of m)))

  items_raise : (quiet : Bool) (is : List Item) (m : Machine) (go : Machine → Next) → ((k : Ask) → PrintAsks is m k → FitsIn m k → X (at_once k))
      → Q m.highest → ((n : Machine) → Q n.highest → Notes Q (go n)) → Notes Q (print_items quiet is m go)
  unfolding print_items
  items_raise true [] m go give q next = next m q
  items_raise false [] m go give q next = written_notes Q m (13 ∷ 10 ∷ []) go q (λ n e r. next n r)
  items_raise quiet (tree.comma ∷ is) m go give q next =
      written_notes Q m (comma_blanks m) _ q (λ n w r.
      items_raise true is n go (λ k d x. give k (asks.after_comma w d) (fits_earlier k (write_same m (comma_blanks m) n w) x)) r next)
  items_raise quiet (tree.semicolon ∷ is) m go give q next = items_raise true is m go (λ k d x. give k (asks.after_semicolon d) x) q next
  items_raise quiet (tree.shown f ∷ is) m go give q next =
      worked_notes Q m (value_of f m.variables (room_of m)) _ (told f m (λ k d x. give k (asks.this_item d) x) q) (λ v room e r.
      written_notes Q (noting m room) (shown_value v) _ r (λ n w s.
      items_raise false is n go
      (λ k d x. give k (asks.after_item e w d) (fits_earlier {m = noting m room} k (write_same (noting m room) (shown_value v) n w) x)) s next))

  -- the line of input that was taken
  input_raises : (given : List ℕ) (m : Machine) (v : Variable) (go : Machine → Next)
      → ((b : ℕ) (s : List ℕ) → given ≡ b ∷ s → length (take_line (b ∷ s)).bytes ≤ longest_input_line
      → string_bytes m.variables.strings + length (take_line (b ∷ s)).bytes ≤ m.space → X 1)
      → Q m.highest → ((n : Machine) → Q n.highest → Notes Q (go n)) → Notes Q (input_line given m v go)
  input_raises [] m v go give q next = q
  input_raises (b ∷ s) m v go give q next =
      let line = take_line (b ∷ s) in
      let taken = with_input m line.left (m.taken + (length m.input - length line.left)) in
      by_test (ltb longest_input_line (length line.bytes)) (λ t. rw t q)
      (λ t. rw t
      (worked_notes Q taken (make line.bytes (room_of taken)) _
      (raised_on X q (make_raised X line.bytes (room_of taken) (λ h. give b s refl (ltb-false _ _ t) h)))
      (λ y room f r. filled_notes Q v.kind v.telling line.bytes (noting taken room) go r next)))

  -- a READ's items
  module _ (space : ℕ) where
    given_raises : (v : Variable) (b : List ℕ) (m : Machine) (go : Machine → Next) → m.space ≡ space
        → (v.kind ≡ kind.Text → string_bytes m.variables.strings + length b ≤ space → X 1)
        → Q m.highest → ((n : Machine) → Gave v b m n → n.space ≡ space → Q n.highest → Notes Q (go n)) → Notes Q (given v.kind v.telling b m go)
    given_raises v b m go s give q next = by_kind v.kind refl
      where
        by_number : (a : Result ℕ Error) → number_item b ≡ a → v.kind ≡ kind.Whole → Notes Q (given_number a v.telling m go)
        by_number (Ok w) e t =
            by_test (numbers_full m.variables.numbers v.telling) (λ f. rw f q)
            (λ f. rw f (next (with_number m v.telling w) (λ g. rw (t, e, f)) s q))
        by_number (Err x) e t = q

        by_kind : (k : Kind) → v.kind ≡ k → Notes Q (given k v.telling b m go)
        by_kind kind.Whole t = by_number (number_item b) refl t
        by_kind kind.Text t =
            worked_notes Q m (make b (room_of m)) _ (raised_on X q (make_raised X b (room_of m) (λ h. give t (rw s at h))))
            (λ y room e r.
            by_test (strings_full m.variables.strings v.telling) (λ f. rw f r)
            (λ f. rw f (next (with_string (noting m room) v.telling b) (λ g. rw (t, e, f)) s r)))

    read_raises : (vs : List Variable) (m : Machine) (go : Machine → Next) → m.space ≡ space
        → ((n : Machine) (k : Ask) → ReadAsks vs m n k → Fits space (string_bytes n.variables.strings) k → X (at_once k))
        → Q m.highest → ((n : Machine) → Q n.highest → Notes Q (go n)) → Notes Q (read_items vs m go)
    unfolding read_items bytes_in
    read_raises [] m go s give q next = next m q
    read_raises (v ∷ vs) m go s give q next =
        by_items m.items refl (λ n t more r. read_raises vs n go t more r next)
      where
        by_items : (l : List (List ℕ)) → m.items ≡ l
            → ((n : Machine) → n.space ≡ space → ((o : Machine) (k : Ask) → ReadAsks vs n o k → Fits space (string_bytes o.variables.strings) k → X (at_once k))
            → Q n.highest → Notes Q (read_items vs n go))
            → Notes Q (next_item l m (λ b n. given v.kind v.telling b n (λ o. read_items vs o go)))
        by_items [] e more = q
        by_items (b ∷ l) e more =
            given_raises v b (with_items m l) _ s
            (λ t x. give m (record { unfinished = []; bytes = b }) (asks.this_variable t e) (omega (arith, x))) q
            (λ n g t r. more n t (λ o k d x. give o k (asks.after_variable e g d) x) r)

-- a request of a statement that fits, and how many strings are unfinished with it
pub record AskedOf (lines : List Line) (place : ℕ) (s : Statement) (m : Machine) (count : ℕ) : Type 0 where
  pub asking : Machine
  pub ask : Ask
  pub asks : StatementAsks lines place s m asking ask
  pub fits : Fits m.space (string_bytes asking.variables.strings) ask
  pub counted : at_once ask ≡ count

module _ (exact : LiveIsExactFacts) (program : List ℕ) (place : ℕ) (m : Machine) (after : Position) where
  abbrev R : Statement → ℕ → Type 0
  R s h = Raised (AskedOf after.lines place s m) m.highest h

  abbrev Same : Statement → Machine → Type 0
  Same s n = R s n.highest

  while_raises : (c : Formula) (p : Partner) → wend_for place after.lines ≡ p → Notes (R (tree.while c)) (while_by p place c m after)
  while_raises c none e = inl refl
  while_raises c (some w) e =
      let s = tree.while c in
      whole_notes (R s) c m _
      (told exact (AskedOf after.lines place s m) m.highest c m
      (λ k d x. record { asking = m; ask = k; asks = asks.repeated e d; fits = x; counted = refl }) (inl refl))
      (λ v room f q. tested_keeps (Same s) (unnoted (R s)) (noting m room) (sought (is_while (start_of after.lines) place) m.records) v w (here_of place c after) after (sought_fewer (is_while (start_of after.lines) place) m.records) q)

  pub statement_raises : (s : Statement) → Notes (R s) (do_statement program place s m after)
  unfolding bytes_in
  statement_raises tree.empty = inl refl
  statement_raises (tree.assign v f) =
      let s = tree.assign v f in
      worked_notes (R s) m (value_of f m.variables (room_of m)) _
      (told exact (AskedOf after.lines place s m) m.highest f m
      (λ k d x. record { asking = m; ask = k; asks = asks.assigned d; fits = x; counted = refl }) (inl refl))
      (λ x room e q. assigned_notes (R s) v.kind v.telling x (noting m room) _ q (λ n r. r))
  statement_raises (tree.print is) =
      items_raise exact (AskedOf after.lines place (tree.print is) m) m.highest false is m _
      (λ k d x. record { asking = m; ask = k; asks = asks.printing d; fits = x; counted = refl }) (inl refl) (λ n q. q)
  statement_raises (tree.if_then c p) =
      let s = tree.if_then c p in
      whole_notes (R s) c m (λ w n. cond (eqb w 0) (line_over n after.lines) (branch n after.lines p))
      (told exact (AskedOf after.lines place s m) m.highest c m
      (λ k d x. record { asking = m; ask = k; asks = asks.tested d; fits = x; counted = refl }) (inl refl))
      (λ w room e q. by_test (eqb w 0) (λ t. rw t q) (λ t. rw t q))
  statement_raises (tree.if_else c p o) =
      let s = tree.if_else c p o in
      whole_notes (R s) c m _
      (told exact (AskedOf after.lines place s m) m.highest c m
      (λ k d x. record { asking = m; ask = k; asks = asks.chosen d; fits = x; counted = refl }) (inl refl)) (λ w room e q. q)
  statement_raises (tree.goto l) =
      line_keeps (Same (tree.goto l)) (unnoted (R (tree.goto l))) m (from_number l.0 (lines_of program)) _ (inl refl) (λ ls. inl refl)
  statement_raises (tree.gosub l) =
      let s = tree.gosub l in
      line_keeps (Same s) (unnoted (R s)) m (from_number l.0 (lines_of program)) _ (inl refl)
      (λ ls. pushed_keeps (Same s) (unnoted (R s)) m (call after) (λ n. enters n ls) (inl refl) (λ n q. q))
  statement_raises tree.return = returned_keeps (Same tree.return) (unnoted (R tree.return)) m (sought is_call m.records) (sought_fewer is_call m.records) (inl refl)
  statement_raises (tree.for v from to by) =
      let s = tree.for v from to by in
      by_test (is_whole_kind v.kind)
      (λ t. rw t
      (whole_notes (R s) from m _
      (told exact (AskedOf after.lines place s m) m.highest from m
      (λ k d x. record { asking = m; ask = k; asks = asks.started t d; fits = x; counted = refl }) (inl refl)) (λ a room e q.
      whole_notes (R s) to (noting m room) _
      (told exact (AskedOf after.lines place s m) m.highest to (noting m room)
      (λ k d x. record { asking = m; ask = k; asks = asks.limited t e d; fits = x; counted = refl }) q) (λ b next d q'.
      whole_notes (R s) by (noting m next) _
      (told exact (AskedOf after.lines place s m) m.highest by (noting m next)
      (λ k c x. record { asking = m; ask = k; asks = asks.stepped t e d c; fits = x; counted = refl }) q') (λ w last c q''.
      begun_keeps (Same s) (unnoted (R s)) v.telling place after a b w (noting m last) q'')))))
      (λ t. rw t (inl refl))
  statement_raises tree.next = next_keeps (Same tree.next) (unnoted (R tree.next)) m (sought is_loop m.records) after (sought_fewer is_loop m.records) (inl refl)
  statement_raises (tree.next_of v) =
      let s = tree.next_of v in
      by_test (is_whole_kind v.kind)
      (λ t. rw t (next_keeps (Same s) (unnoted (R s)) m (sought (is_loop_of v.telling) m.records) after (sought_fewer (is_loop_of v.telling) m.records) (inl refl)))
      (λ t. rw t (inl refl))
  statement_raises (tree.while c) = while_raises c (wend_for place after.lines) refl
  statement_raises tree.wend =
      back_keeps (Same tree.wend) (unnoted (R tree.wend)) m (sought (is_while_of (start_of after.lines) place) m.records) (sought_fewer (is_while_of (start_of after.lines) place) m.records) (inl refl)
  statement_raises (tree.line_input t v) =
      let s = tree.line_input t v in
      written_notes (R s) m t _ (inl refl) (λ n w q.
      input_raises exact (AskedOf after.lines place s m) m.highest n.input n v _
      (λ b given e short x.
      let k : Ask = record { unfinished = []; bytes = (take_line (b ∷ given)).bytes } in
      record { asking = m; ask = k; asks = asks.input w e short; fits = fits_earlier k (write_same m t n w) (omega (arith, x)); counted = refl })
      q (λ o r. r))
  statement_raises (tree.data_of l) = inl refl
  statement_raises (tree.read vs) =
      read_raises exact (AskedOf after.lines place (tree.read vs) m) m.highest m.space vs m _ refl
      (λ n k d x. record { asking = n; ask = k; asks = asks.reading d; fits = x; counted = refl }) (inl refl) (λ n q. q)
  statement_raises tree.restore = inl refl
  statement_raises (tree.restore_to l) =
      line_keeps (Same (tree.restore_to l)) (unnoted (R (tree.restore_to l))) m (from_number l.0 (lines_of program)) _ (inl refl) (λ ls. inl refl)
  statement_raises tree.end = inl refl
  statement_raises tree.stop = inl refl
  statement_raises tree.remark = inl refl
