-- A statement without FRE on a machine and on the same machine with a larger space: it comes to the same, on such machines and at the same
-- place, or the first fails with 14. Where it goes on there are statements without FRE.
use Rattle.std.specs.Prelude.{Err, Ok, Result, ℕ}
use Rattle.whole.specs.declared.errors.Error.{Error}
use mathlib.Core.Path.{◌≡◌, refl}
use mathlib.Core.Bool.{Bool, true, false}
use mathlib.Core.List.{List, [], ◌∷◌}
use Prim.Native.Nat.{ℕ, ◌+◌, ◌-◌}
use lib.Dec.{ltb, leb, eqb}
use lib.ListN.{length}
use Rattle.whole.specs.Digits.{number_item}
use Rattle.whole.specs.Whole.{applied}
use Rattle.whole.specs.declared.arithmetic.Operator.TheVariants.{Add}
use Rattle.words.specs.declared.names.Kind.{Kind}
use Rattle.words.specs.declared.names.Kind.TheVariants as kind
use Rattle.words.specs.Names.{Telling}
use Rattle.words.specs.declared.symbols.Word.TheVariants as word
use Rattle.words.proofs.Choices.{by_test}
use Rattle.loader.specs.Lines.{Line, lines_of, from_number}
use Rattle.grammar.specs.Trees as tree
use Rattle.grammar.specs.Trees.{Formula, Variable, Item, Statement}
use Rattle.statements.specs.Parts.{item_formulas, head_of, parts_of, parts_within, heads, statements_of}
use Rattle.statements.proofs.Depths.{heads_append}
use Rattle.variables.specs.Strings.{Value, whole, text}
use Rattle.variables.specs.Variables.{word_of, numbers_full, strings_full}
use Rattle.machine.specs.Machine.{Position, Record, loop, call, again, Machine, room_of, with_input, with_items, write, comma_blanks, Search, missing, found, sought, passed, is_call, is_loop, is_loop_of, longest_input_line}
use Rattle.machine.specs.Items.{items_of}
use Rattle.machine.specs.Order.{Stand, stands, Partner, none, some, past, pairs_by, next_for, wend_for}
use Rattle.machine.specs.Repeats.{start_of, is_while, is_while_of}
use Rattle.order.proofs.Laws.{Every, every_front, every_back}
use Rattle.turns.specs.Steps.{Next, goes_on, enters, with_number, with_string, assigned, written, shown_value, print_items, to_line, pushed, returned, turned, next_on, take_line, filled, input_line, given_number, given, next_item, read_items, is_whole_kind, do_statement, cleared, begun, names_other, skipped, here_of, repeated, while_by, turned_back}
use Rattle.laws.proofs.Positions.{from_throughout, partner_throughout, here_throughout}
use Rattle.promises.proofs.Records as records
use Rattle.promises.proofs.Records.{sought_each, below_each}
use Rattle.larger.proofs.Rooms.{wider_makes}
use Rattle.larger.proofs.Machines.{FreeFormula, FreeStatement, FreeLines, FreePosition, FreeRecord, widened, Apt, Same, onward, entered, ended, stopped, failed, Alike, either_same, apt_records, worked_same, formula_same, whole_same}

module _ (k : ℕ) where
  -- ---- assignment

  assigned_same : (kd : Kind) (name : Telling) (v : Value) (m : Machine) (after : Position) → Apt k m → FreePosition after
      → Same k (assigned kd name v m (λ o. goes_on o after)) (assigned kd name v (widened k m) (λ o. goes_on o after))
  assigned_same kind.Whole name (whole w) m after s a =
      either_same (numbers_full m.variables.numbers name) failed (onward (record { small = s.small; held = s.held }) a)
  assigned_same kind.Whole name (text b) m after s a = failed
  assigned_same kind.Text name (whole w) m after s a = failed
  assigned_same kind.Text name (text b) m after s a =
      either_same (strings_full m.variables.strings name) failed (onward (record { small = s.small; held = s.held }) a)

  -- ---- PRINT

  written_same : (m : Machine) (b : List ℕ) (go : Machine → Next) → Apt k m → Alike k go → Same k (written m b go) (written (widened k m) b go)
  unfolding write
  written_same m b go s h =
      by_test (ltb m.output_room (length m.output + length b))
      (λ e. rw e failed)
      (λ e. rw e (h _ (record { small = s.small; held = s.held })))

  print_same : (quiet : Bool) (is : List Item) (m : Machine) (go : Machine → Next) → Every FreeFormula (item_formulas is) → Apt k m → Alike k go
      → Same k (print_items quiet is m go) (print_items quiet is (widened k m) go)
  unfolding print_items
  print_same quiet [] m go x s h = either_same quiet (h m s) (written_same m (13 ∷ 10 ∷ []) go s h)
  print_same quiet (tree.comma ∷ is) m go x s h = written_same m (comma_blanks m) _ s (λ n t. print_same true is n go x t h)
  print_same quiet (tree.semicolon ∷ is) m go x s h = print_same true is m go x s h
  print_same quiet (tree.shown f ∷ is) m go x s h =
      formula_same f m _ x.0 s (λ v n t. written_same n (shown_value v) _ t (λ o u. print_same false is o go x.1 u h))

  -- ---- jumps and records

  line_same : (m : Machine) (lines : List Line) (go : Machine → List Line → Next) → FreeLines lines
      → ((ls : List Line) → FreeLines ls → Same k (go m ls) (go (widened k m) ls))
      → Same k (to_line m lines (go m)) (to_line (widened k m) lines (go (widened k m)))
  line_same m [] go x h = failed
  line_same m (l ∷ ls) go x h = h (l ∷ ls) x

  pushed_same : (m : Machine) (r : Record) (go : Machine → Next) → Apt k m → FreeRecord r → Alike k go
      → Same k (pushed m r go) (pushed (widened k m) r go)
  pushed_same m r go s x h =
      either_same (leb m.record_room (length m.records)) failed (h _ (apt_records (r ∷ m.records) s (x, s.held)))

  returned_same : (m : Machine) (x : Search) → Apt k m → records.Found FreeRecord x → Same k (returned m x) (returned (widened k m) x)
  returned_same m missing s h = failed
  returned_same m (found r under) s h = onward (apt_records under s h.1) h.0

  -- ---- FOR and NEXT

  turned_same : (m : Machine) (v : Telling) (limit step : ℕ) (back : Position) (under : List Record) (after : Position) (x : Result ℕ Error)
      → Apt k m → FreePosition back → records.Each FreeRecord under → FreePosition after
      → Same k (turned m v limit step back under after x) (turned (widened k m) v limit step back under after x)
  turned_same m v limit step back under after (Ok w) s b u a =
      either_same (numbers_full m.variables.numbers v) failed
      (either_same (passed w limit step)
      (onward (record { small = s.small; held = u }) a)
      (onward (record { small = s.small; held = (b, u) }) b))
  turned_same m v limit step back under after (Err e) s b u a = failed

  next_same : (m : Machine) (x : Search) (after : Position) → Apt k m → records.Found FreeRecord x → FreePosition after
      → Same k (next_on m x after) (next_on (widened k m) x after)
  next_same m missing after s h a = failed
  next_same m (found (loop v limit step back) under) after s h a =
      turned_same m v limit step back under after (applied Add (word_of m.variables.numbers v) step) s h.0 h.1 a
  next_same m (found (call back) under) after s h a = failed
  next_same m (found (again back) under) after s h a = failed

  skipped_same : (m : Machine) (v : Telling) (p : Partner) → Apt k m → ((x : Stand) → p ≡ some x → FreePosition (past x))
      → Same k (skipped v p m) (skipped v p (widened k m))
  skipped_same m v none s h = failed
  skipped_same m v (some x) s h = either_same (names_other v (head_of x.part)) failed (onward s (h x refl))

  loop_same : (m : Machine) (v : Telling) (at from limit step : ℕ) (after : Position) → Apt k m → FreePosition after
      → Same k (begun v at after from limit step m) (begun v at after from limit step (widened k m))
  loop_same m v at from limit step after s a =
      let clear : Apt k (cleared v (with_number m v from)) =
      record { small = s.small; held = below_each FreeRecord (is_loop_of v) m.records s.held } in
      either_same (numbers_full m.variables.numbers v) failed
      (either_same (passed from limit step)
      (skipped_same (cleared v (with_number m v from)) v (next_for at after.lines) clear
      (partner_throughout FreeStatement (pairs_by word.For word.Next) at after.lines a.0))
      (pushed_same (cleared v (with_number m v from)) (loop v limit step after) (λ r. goes_on r after) clear a (λ r t. onward t a)))

  -- ---- WHILE and WEND

  repeated_same : (m : Machine) (x : Search) (here after : Position) → Apt k m → records.Found FreeRecord x → FreePosition here
      → FreePosition after → Same k (repeated m x here after) (repeated (widened k m) x here after)
  repeated_same m missing here after s h b a = pushed_same m (again here) (λ n. goes_on n after) s b (λ n t. onward t a)
  repeated_same m (found r under) here after s h b a = onward (apt_records (r ∷ under) s h) a

  while_same : (p : Partner) (at : ℕ) (c : Formula) (m : Machine) (after : Position) → FreeStatement (tree.while c) → Apt k m → FreePosition after
      → ((x : Stand) → p ≡ some x → FreePosition (past x)) → Same k (while_by p at c m after) (while_by p at c (widened k m) after)
  while_same none at c m after g s a h = failed
  while_same (some w) at c m after g s a h =
      let test = is_while (start_of after.lines) at in
      whole_same c m _ g.0 s (λ v n t. either_same (eqb v 0)
      (onward (apt_records _ t (below_each FreeRecord test n.records t.held)) (h w refl))
      (repeated_same n (sought test n.records) (here_of at c after) after t (sought_each FreeRecord test n.records t.held)
      (a.0, here_throughout FreeStatement at c after.rest g a.1) a))

  back_same : (m : Machine) (x : Search) → Apt k m → records.Found FreeRecord x → Same k (turned_back m x) (turned_back (widened k m) x)
  back_same m missing s h = failed
  back_same m (found r under) s h = onward (apt_records (r ∷ under) s h) h.0

  -- ---- LINE INPUT

  filled_same : (kd : Kind) (name : Telling) (b : List ℕ) (m : Machine) (after : Position) → Apt k m → FreePosition after
      → Same k (filled kd name b m (λ o. goes_on o after)) (filled kd name b (widened k m) (λ o. goes_on o after))
  filled_same kind.Whole name b m after s a = failed
  filled_same kind.Text name b m after s a = assigned_same kind.Text name (text b) m after s a

  input_same : (input : List ℕ) (m : Machine) (v : Variable) (after : Position) → Apt k m → FreePosition after
      → Same k (input_line input m v (λ o. goes_on o after)) (input_line input (widened k m) v (λ o. goes_on o after))
  input_same [] m v after s a = failed
  input_same (b ∷ rest) m v after s a =
      let t = take_line (b ∷ rest) in
      let n = with_input m t.left (m.taken + (length m.input - length t.left)) in
      either_same (ltb longest_input_line (length t.bytes)) failed
      (worked_same {m = n} _ (record { small = s.small; held = s.held })
      (wider_makes k t.bytes (room_of n) (room_of (widened k n)) (record { small = s.small; is = refl }))
      (λ x o u. filled_same v.kind v.telling t.bytes o after u a))

  -- ---- READ

  given_same : (kd : Kind) (name : Telling) (b : List ℕ) (m : Machine) (go : Machine → Next) → Apt k m → Alike k go
      → Same k (given kd name b m go) (given kd name b (widened k m) go)
  given_same kind.Whole name b m go s h = by_number (number_item b)
    where
      by_number : (x : Result ℕ Error) → Same k (given_number x name m go) (given_number x name (widened k m) go)
      by_number (Ok w) = either_same (numbers_full m.variables.numbers name) failed (h (with_number m name w) (record { small = s.small; held = s.held }))
      by_number (Err e) = failed
  given_same kind.Text name b m go s h =
      worked_same _ s (wider_makes k b (room_of m) (room_of (widened k m)) (record { small = s.small; is = refl }))
      (λ x o u. either_same (strings_full o.variables.strings name) failed (h (with_string o name b) (record { small = u.small; held = u.held })))

  read_same : (vs : List Variable) (m : Machine) (go : Machine → Next) → Apt k m → Alike k go
      → Same k (read_items vs m go) (read_items vs (widened k m) go)
  unfolding read_items
  read_same [] m go s h = h m s
  read_same (v ∷ vs) m go s h = by_items m.items (λ n t. read_same vs n go t h)
    where
      by_items : (l : List (List ℕ)) → Alike k (λ n. read_items vs n go)
          → Same k (next_item l m (λ b n. given v.kind v.telling b n (λ o. read_items vs o go)))
          (next_item l (widened k m) (λ b n. given v.kind v.telling b n (λ o. read_items vs o go)))
      by_items [] r = failed
      by_items (b ∷ l) r = given_same v.kind v.telling b (with_items m l) _ (record { small = s.small; held = s.held }) r

  -- ---- all statements

  pub statement_same : (program : List ℕ) (at : ℕ) (x : Statement) (m : Machine) (after : Position) → FreeLines (lines_of program)
      → FreeStatement x → Every FreeStatement (heads (parts_within x)) → Apt k m → FreePosition after
      → Same k (do_statement program at x m after) (do_statement program at x (widened k m) after)
  unfolding parts_of heads
  statement_same program at tree.empty m after l g p s a = onward s a
  statement_same program at (tree.assign v f) m after l g p s a =
      formula_same f m _ g.0 s (λ x n t. assigned_same v.kind v.telling x n after t a)
  statement_same program at (tree.print is) m after l g p s a = print_same false is m _ g s (λ n t. onward t a)
  statement_same program at (tree.if_then c q) m after l g p s a =
      whole_same c m _ g.0 s (λ w n t. either_same (eqb w 0) (onward t (a.0, tt)) (onward t (a.0, p)))
  statement_same program at (tree.if_else c q r) m after l g p s a =
      let h = rw (heads_append (parts_of q) (parts_of r)) at p in
      let front = every_front FreeStatement (statements_of q) (statements_of r) h in
      let back = every_back FreeStatement (statements_of q) (statements_of r) h in
      whole_same c m _ g.0 s (λ w n t. by_test (eqb w 0) (λ e. rw e (onward t (a.0, back))) (λ e. rw e (onward t (a.0, front))))
  statement_same program at (tree.goto n) m after l g p s a =
      line_same m (from_number n.0 (lines_of program)) (λ o ls. enters o ls) (from_throughout FreeStatement n.0 (lines_of program) l)
      (λ ls h. entered s h)
  statement_same program at (tree.gosub n) m after l g p s a =
      line_same m (from_number n.0 (lines_of program)) (λ o ls. pushed o (call after) (λ q. enters q ls))
      (from_throughout FreeStatement n.0 (lines_of program) l)
      (λ ls h. pushed_same m (call after) (λ o. enters o ls) s a (λ o t. entered t h))
  statement_same program at tree.return m after l g p s a =
      returned_same m (sought is_call m.records) s (sought_each FreeRecord is_call m.records s.held)
  statement_same program at (tree.for v from to by) m after l g p s a =
      either_same (is_whole_kind v.kind)
      (whole_same from m _ g.0 s (λ x n t.
      whole_same to n _ g.1.0 t (λ y o u.
      whole_same by o _ g.1.1.0 u (λ z q w. loop_same q v.telling at x y z after w a))))
      failed
  statement_same program at tree.next m after l g p s a =
      next_same m (sought is_loop m.records) after s (sought_each FreeRecord is_loop m.records s.held) a
  statement_same program at (tree.next_of v) m after l g p s a =
      either_same (is_whole_kind v.kind)
      (next_same m (sought (is_loop_of v.telling) m.records) after s
      (sought_each FreeRecord (is_loop_of v.telling) m.records s.held) a)
      failed
  statement_same program at (tree.while c) m after l g p s a =
      while_same (wend_for at after.lines) at c m after g s a
      (partner_throughout FreeStatement (pairs_by word.While word.Wend) at after.lines a.0)
  statement_same program at tree.wend m after l g p s a =
      let test = is_while_of (start_of after.lines) at in
      back_same m (sought test m.records) s (sought_each FreeRecord test m.records s.held)
  statement_same program at (tree.line_input t v) m after l g p s a =
      written_same m t _ s (λ n i. input_same n.input n v after i a)
  statement_same program at (tree.data_of d) m after l g p s a = onward s a
  statement_same program at (tree.read vs) m after l g p s a = read_same vs m _ s (λ n t. onward t a)
  statement_same program at tree.restore m after l g p s a = onward (record { small = s.small; held = s.held }) a
  statement_same program at (tree.restore_to n) m after l g p s a =
      line_same m (from_number n.0 (lines_of program)) (λ o ls. goes_on (with_items o (items_of (stands ls))) after)
      (from_throughout FreeStatement n.0 (lines_of program) l) (λ ls h. onward (record { small = s.small; held = s.held }) a)
  statement_same program at tree.end m after l g p s a = ended
  statement_same program at tree.stop m after l g p s a = stopped
  statement_same program at tree.remark m after l g p s a = onward s a
