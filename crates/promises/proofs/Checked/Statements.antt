-- A statement that the check has found right does not end in 2, 8, 13 or 16, and the run goes on at a place that it has found right.
use Rattle.std.specs.Prelude.{Err, Ok, Result, ℕ}
use Rattle.whole.specs.declared.errors.Error.{Error}
use mathlib.Core.Path.{◌≡◌, refl}
use mathlib.Core.Bool.{Bool, true, false, false≢true}
use mathlib.Core.List.{List, [], ◌∷◌}
use Prim.Native.Nat.{ℕ, ◌+◌, ◌-◌}
use borrow.Author.Tests.{not-false}
use lib.Dec.{ltb, leb, eqb}
use lib.ListN.{length}
use Rattle.whole.specs.Digits.{number_item}
use Rattle.whole.specs.Whole.{applied}
use Rattle.whole.specs.declared.arithmetic.Operator.TheVariants.{Add}
use Rattle.words.specs.declared.names.Kind.{Kind}
use Rattle.words.specs.declared.names.Kind.TheVariants as kind
use Rattle.words.specs.Names.{Telling}
use Rattle.words.specs.declared.symbols.Word.TheVariants as word
use Rattle.words.proofs.Choices.{by_test, both}
use Rattle.loader.specs.Lines.{Line, lines_of, number_of, has, from_number}
use Rattle.grammar.specs.Trees as tree
use Rattle.grammar.specs.Trees.{Formula, Variable, Item, Statement}
use Rattle.expressions.specs.Types.{sort_of, is_whole, is_text, is_some, is_of}
use Rattle.statements.specs.Parts.{Rest, nothing, part, item_formulas, is_number, all_some, rightly_typed, parts_of, parts_within, heads, head_of}
use Rattle.expressions.specs.declared.sorts.Sort.{Sort}
use Rattle.expressions.specs.declared.sorts.Sort.TheVariants.{Whole, Text, Wrong}
use Rattle.checker.specs.Check.{present}
use Rattle.variables.specs.Strings.{Value, whole, text, Outcome, value, fault, make}
use Rattle.variables.specs.Variables.{word_of, numbers_full, strings_full}
use Rattle.operators.specs.Values.{value_of}
use Rattle.machine.specs.Machine.{Position, Record, loop, call, again, Machine, room_of, with_input, with_items, noting, write, comma_blanks, is_call, is_loop, is_loop_of, Search, missing, found, sought, passed, longest_input_line}
use Rattle.machine.specs.Order.{Stand, later, past, Bracket, Partner, none, some, partner, pairs_by, next_for, wend_for}
use Rattle.machine.specs.Repeats.{start_of, is_while, is_while_of}
use Rattle.order.proofs.Laws.{later_throughout, later_lines, StandThroughout, partner_one}
use Rattle.turns.specs.Steps.{Next, goes_on, enters, ends, stops, fails, worked, worked_whole, store_number, store_string, assigned, written, print_items, to_line, pushed, returned, cleared, begun, turned, next_on, take_line, filled, input_line, given_number, given, next_item, read_items, is_whole_kind, do_statement, names_other, skipped, part_begun, here_of, repeated, while_by, turned_back}
use Rattle.promises.proofs.Records as records
use Rattle.promises.proofs.Records.{sought_each, below_each}
use Rattle.promises.proofs.Checked.Operators.{by_choice, Allowed, Answers, applied_answers, number_answers, Fits, make_fits}
use Rattle.promises.proofs.Checked.Formulas.{formula_fits}
use Rattle.promises.proofs.Checked.Lines.{Checked, AllChecked, PartChecked, parts_apart, part_apart, lines_throughout, LinesChecked, RestChecked, PositionChecked, RecordChecked, RecordsChecked}
use Rattle.promises.proofs.Loops.{looped}

-- ---- formulas of the type that a statement wants

fits_whole : (s : Sort) (o : Outcome) → is_whole s ≡ true → Fits s o → Fits Whole o
fits_whole Whole o e h = h
fits_whole Text o e h = absurd (false≢true e)
fits_whole Wrong o e h = absurd (false≢true e)

fits_text : (s : Sort) (o : Outcome) → is_text s ≡ true → Fits s o → Fits Text o
fits_text Whole o e h = absurd (false≢true e)
fits_text Text o e h = h
fits_text Wrong o e h = absurd (false≢true e)

-- `all` are the lines of the recipe
module _ (all : List Line) where
  -- a statement ends in no such error, and what comes next is as the check wants it
  abbrev pub NextChecked : Next → Type 0
  NextChecked (goes_on m p) = RecordsChecked all m.records × PositionChecked all p
  NextChecked (enters m ls) = RecordsChecked all m.records × LinesChecked all ls
  NextChecked (ends m) = Unit {0}
  NextChecked (stops m) = Unit {0}
  NextChecked (fails e m) = Allowed e

  abbrev MachineChecked : Machine → Type 0
  MachineChecked m = RecordsChecked all m.records

  -- what is done then comes to this from every such machine
  abbrev Continues : (Machine → Next) → Type 0
  Continues go = (m : Machine) → MachineChecked m → NextChecked (go m)

  goes_on_lem : (after : Position) → PositionChecked all after → Continues (λ m. goes_on m after)
  goes_on_lem after p m r = (r, p)

  -- ---- working out

  worked-whole : (m : Machine) (o : Outcome) (go : Value → Machine → Next) → Fits Whole o → MachineChecked m
      → ((w : ℕ) → Continues (go (whole w))) → NextChecked (worked m o go)
  worked-whole m (value (whole w) room) go h r k = k w (noting m room) r
  worked-whole m (value (text b) room) go h r k = absurd h
  worked-whole m (fault e room) go h r k = h

  worked-text : (m : Machine) (o : Outcome) (go : Value → Machine → Next) → Fits Text o → MachineChecked m
      → ((b : List ℕ) → Continues (go (text b))) → NextChecked (worked m o go)
  worked-text m (value (whole w) room) go h r k = absurd h
  worked-text m (value (text b) room) go h r k = k b (noting m room) r
  worked-text m (fault e room) go h r k = h

  worked_some : (s : Sort) (m : Machine) (o : Outcome) (go : Value → Machine → Next) → is_some s ≡ true → Fits s o → MachineChecked m
      → ((v : Value) → Continues (go v)) → NextChecked (worked m o go)
  worked_some Whole m o go e h r k = worked-whole m o go h r (λ w. k (whole w))
  worked_some Text m o go e h r k = worked-text m o go h r (λ b. k (text b))
  worked_some Wrong m o go e h r k = absurd (false≢true e)

  whole_worked : (f : Formula) (m : Machine) (go : ℕ → Machine → Next) → is_whole (sort_of f) ≡ true → MachineChecked m
      → ((w : ℕ) → Continues (go w)) → NextChecked (worked_whole f m go)
  whole_worked f m go e r k =
      let o = value_of f m.variables (room_of m) in
      worked-whole m o _ (fits_whole (sort_of f) o e (formula_fits f m.variables (room_of m))) r k

  -- ---- assignment

  number_stored : (m : Machine) (name : Telling) (w : ℕ) (go : Machine → Next) → MachineChecked m → Continues go
      → NextChecked (store_number m name w go)
  number_stored m name w go r k = by_choice NextChecked (numbers_full m.variables.numbers name) refl (k _ r)

  string_stored : (m : Machine) (name : Telling) (b : List ℕ) (go : Machine → Next) → MachineChecked m → Continues go
      → NextChecked (store_string m name b go)
  string_stored m name b go r k = by_choice NextChecked (strings_full m.variables.strings name) refl (k _ r)

  assign_checked : (k : Kind) (name : Telling) (f : Formula) (m : Machine) (go : Machine → Next) → is_of k (sort_of f) ≡ true
      → MachineChecked m → Continues go → NextChecked (worked m (value_of f m.variables (room_of m)) (λ x n. assigned k name x n go))
  assign_checked kind.Whole name f m go e r k =
      let o = value_of f m.variables (room_of m) in
      worked-whole m o _ (fits_whole (sort_of f) o e (formula_fits f m.variables (room_of m))) r (λ w n q. number_stored n name w go q k)
  assign_checked kind.Text name f m go e r k =
      let o = value_of f m.variables (room_of m) in
      worked-text m o _ (fits_text (sort_of f) o e (formula_fits f m.variables (room_of m))) r (λ b n q. string_stored n name b go q k)

  -- ---- PRINT

  written_checked : (m : Machine) (bytes : List ℕ) (go : Machine → Next) → MachineChecked m → Continues go → NextChecked (written m bytes go)
  unfolding write
  written_checked m bytes go r k =
      by_test (ltb m.output_room (length m.output + length bytes)) (λ e. rw e refl) (λ e. rw e (k _ r))

  print_checked : (quiet : Bool) (is : List Item) (m : Machine) (go : Machine → Next) → all_some (item_formulas is) ≡ true
      → MachineChecked m → Continues go → NextChecked (print_items quiet is m go)
  unfolding print_items all_some
  print_checked quiet [] m go e r k = by_choice NextChecked quiet (k m r) (written_checked m (13 ∷ 10 ∷ []) go r k)
  print_checked quiet (tree.comma ∷ is) m go e r k =
      written_checked m (comma_blanks m) _ r (λ n q. print_checked true is n go e q k)
  print_checked quiet (tree.semicolon ∷ is) m go e r k = print_checked true is m go e r k
  print_checked quiet (tree.shown f ∷ is) m go e r k =
      let t = both (is_some (sort_of f)) (all_some (item_formulas is)) e in
      worked_some (sort_of f) m (value_of f m.variables (room_of m)) _ t.0 (formula_fits f m.variables (room_of m)) r
      (λ v n q. written_checked n _ _ q (λ o s. print_checked false is o go t.1 s k))

  -- ---- jumps

  line_found : (n : ℕ) (ls : List Line) (m : Machine) (go : List Line → Next) → present n ls ≡ true → LinesChecked all ls
      → ((from : List Line) → LinesChecked all from → NextChecked (go from)) → NextChecked (to_line m (from_number n ls) go)
  unfolding present from_number
  line_found n [] m go e h k = absurd (false≢true e)
  line_found n (l ∷ ls) m go e h k =
      by_test (has n (number_of l.bytes)) (λ t. rw t (k (l ∷ ls) h)) (λ t. rw t (line_found n ls m go (rw t at e) h.1 k))

  pushed_checked : (m : Machine) (r : Record) (go : Machine → Next) → MachineChecked m → RecordChecked all r → Continues go
      → NextChecked (pushed m r go)
  pushed_checked m r go q p k = by_choice NextChecked (leb m.record_room (length m.records)) refl (k _ (p, q))

  abbrev SearchChecked : Search → Type 0
  SearchChecked s = records.Found (RecordChecked all) s

  returned_checked : (m : Machine) (s : Search) → SearchChecked s → NextChecked (returned m s)
  returned_checked m missing h = refl
  returned_checked m (found r under) h = (h.1, h.0)

  -- ---- FOR and NEXT

  -- where the run goes on after the NEXT of a FOR, or the WEND of a WHILE
  past_checked : (test : Statement → Bracket) (at : ℕ) (lines : List Line) → LinesChecked all lines → (x : Stand)
      → partner test 0 (later at lines) ≡ some x → PositionChecked all (past x)
  past_checked test at lines h x e = (
    partner_one (λ y. LinesChecked all y.lines) test 0 (later at lines) (later_lines (LinesChecked all) (λ l ls k. k.1) at lines h) x e,
    (part_apart all x.part
        (partner_one (StandThroughout (Checked all)) test 0 (later at lines) (later_throughout (Checked all) at lines (lines_throughout all lines h)) x e)).2,
  )

  skipped_checked : (name : Telling) (s : Partner) → ((x : Stand) → s ≡ some x → PositionChecked all (past x)) → Continues (skipped name s)
  skipped_checked name none h m r = refl
  skipped_checked name (some x) h m r = by_choice NextChecked (names_other name (head_of x.part)) refl (r, h x refl)

  begun_checked : (name : Telling) (at : ℕ) (after : Position) (start limit step : ℕ) → PositionChecked all after
      → Continues (begun name at after start limit step)
  begun_checked name at after start limit step p m r =
      number_stored m name start (looped name at after start limit step) r (λ n q.
      let clear = below_each (RecordChecked all) (is_loop_of name) n.records q in
      by_choice NextChecked (passed start limit step)
      (skipped_checked name (next_for at after.lines) (past_checked (pairs_by word.For word.Next) at after.lines p.0) (cleared name n) clear)
      (pushed_checked (cleared name n) (loop name limit step after) (λ o. goes_on o after) clear p (goes_on_lem after p)))

  turned_checked : (m : Machine) (v : Telling) (limit step : ℕ) (back : Position) (under : List Record) (after : Position) (a : Result ℕ Error)
      → PositionChecked all back → RecordsChecked all under → PositionChecked all after → Answers a
      → NextChecked (turned m v limit step back under after a)
  turned_checked m v limit step back under after (Ok w) b u p h =
      by_choice NextChecked (numbers_full m.variables.numbers v) refl
      (by_choice NextChecked (passed w limit step) (u, p) ((b, u), b))
  turned_checked m v limit step back under after (Err e) b u p h = h

  found_checked : (m : Machine) (s : Search) (after : Position) → SearchChecked s → PositionChecked all after → NextChecked (next_on m s after)
  found_checked m missing after h p = refl
  found_checked m (found (loop v limit step back) under) after h p =
      let w = word_of m.variables.numbers v in
      turned_checked m v limit step back under after (applied Add w step) h.0 h.1 p (applied_answers Add w step)
  found_checked m (found (call q) under) after h p = refl
  found_checked m (found (again q) under) after h p = refl

  next_checked : (test : Record → Bool) (m : Machine) (after : Position) → MachineChecked m → PositionChecked all after
      → NextChecked (next_on m (sought test m.records) after)
  next_checked test m after r p = found_checked m (sought test m.records) after (sought_each (RecordChecked all) test m.records r) p

  -- ---- WHILE and WEND

  -- the WHILE itself, with what is left after it
  here_checked : (at : ℕ) (c : Formula) (r : Rest) → Checked all (tree.while c) → RestChecked all r → PartChecked all (part_begun at (tree.while c) r)
  unfolding parts_of heads
  here_checked at c nothing h r = (h, tt)
  here_checked at c (part p) h r = (h, r)

  repeated_checked : (m : Machine) (s : Search) (here after : Position) → MachineChecked m → SearchChecked s → PositionChecked all here
      → PositionChecked all after → NextChecked (repeated m s here after)
  repeated_checked m missing here after r h b p = pushed_checked m (again here) (λ n. goes_on n after) r b (goes_on_lem after p)
  repeated_checked m (found q under) here after r h b p = (h, p)

  while_checked : (s : Partner) (at : ℕ) (c : Formula) (m : Machine) (after : Position) → Checked all (tree.while c) → MachineChecked m
      → PositionChecked all after → ((x : Stand) → s ≡ some x → PositionChecked all (past x)) → NextChecked (while_by s at c m after)
  while_checked none at c m after h r p k = refl
  while_checked (some w) at c m after h r p k =
      let test = is_while (start_of after.lines) at in
      whole_worked c m _ h.typed r (λ v n q. by_choice NextChecked (eqb v 0)
      (below_each (RecordChecked all) test n.records q, k w refl)
      (repeated_checked n (sought test n.records) (here_of at c after) after q (sought_each (RecordChecked all) test n.records q)
      (p.0, here_checked at c after.rest h p.1) p))

  back_checked : (m : Machine) (s : Search) → SearchChecked s → NextChecked (turned_back m s)
  back_checked m missing h = refl
  back_checked m (found r under) h = (h, h.0)

  -- ---- LINE INPUT

  filled_checked : (k : Kind) (name : Telling) (b : List ℕ) (m : Machine) (go : Machine → Next) → is_of k Text ≡ true → MachineChecked m
      → Continues go → NextChecked (filled k name b m go)
  filled_checked kind.Whole name b m go e r k = absurd (false≢true e)
  filled_checked kind.Text name b m go e r k = string_stored m name b go r k

  input_checked : (s : List ℕ) (m : Machine) (v : Variable) (go : Machine → Next) → is_of v.kind Text ≡ true → MachineChecked m
      → Continues go → NextChecked (input_line s m v go)
  input_checked [] m v go e r k = refl
  input_checked (b ∷ s) m v go e r k =
      let t = take_line (b ∷ s) in
      by_choice NextChecked (ltb longest_input_line (length t.bytes)) refl
      (worked-text (with_input m t.left (m.taken + (length m.input - length t.left))) (make t.bytes _) _ (make_fits t.bytes _) r
      (λ c n q. filled_checked v.kind v.telling t.bytes n go e q k))

  -- ---- READ

  given_checked : (k : Kind) (name : Telling) (b : List ℕ) (m : Machine) (go : Machine → Next) → MachineChecked m → Continues go
      → NextChecked (given k name b m go)
  given_checked kind.Whole name b m go r k = by_number (number_item b) (number_answers b)
    where
      by_number : (a : Result ℕ Error) → Answers a → NextChecked (given_number a name m go)
      by_number (Ok w) h = number_stored m name w go r k
      by_number (Err e) h = h
  given_checked kind.Text name b m go r k = worked-text m (make b _) _ (make_fits b _) r (λ c n q. string_stored n name b go q k)

  read_checked : (vs : List Variable) (m : Machine) (go : Machine → Next) → MachineChecked m → Continues go → NextChecked (read_items vs m go)
  unfolding read_items
  read_checked [] m go r k = k m r
  read_checked (v ∷ vs) m go r k = by_items m.items (λ n q. read_checked vs n go q k)
    where
      by_items : (l : List (List ℕ)) → Continues (λ n. read_items vs n go) → NextChecked (next_item l m (λ b n. given v.kind v.telling b n (λ o. read_items vs o go)))
      by_items [] h = refl
      by_items (b ∷ l) h = given_checked v.kind v.telling b (with_items m l) _ r h

-- ---- all statements

-- a variable of the kind that a FOR or NEXT wants
number_kind : (k : Kind) → is_of k Whole ≡ true → is_whole_kind k ≡ true
number_kind kind.Whole e = refl
number_kind kind.Text e = absurd (false≢true e)

module _ (program : List ℕ) (lines : LinesChecked (lines_of program) (lines_of program)) where
  abbrev all : List Line
  all = lines_of program

  for_checked : (at : ℕ) (v : Variable) (from to by : Formula) (m : Machine) (after : Position) → rightly_typed (tree.for v from to by) ≡ true
      → MachineChecked all m → PositionChecked all after → NextChecked all (do_statement program at (tree.for v from to by) m after)
  for_checked at v from to by m after e r p =
      let t = both (is_number v) _ e in
      let u = both (is_whole (sort_of from)) _ t.1 in
      let w = both (is_whole (sort_of to)) (is_whole (sort_of by)) u.1 in
      rw (number_kind v.kind t.0)
      (whole_worked all from m _ u.0 r λ a n rn.
      whole_worked all to n _ w.0 rn λ b o ro.
      whole_worked all by o _ w.1 ro λ s q rq.
      begun_checked all v.telling at after a b s p q rq)

  pub statement_checked : (at : ℕ) (x : Statement) (m : Machine) (after : Position) → Checked all x → AllChecked all (heads (parts_within x))
      → MachineChecked all m → PositionChecked all after → NextChecked all (do_statement program at x m after)
  unfolding parts_of heads
  statement_checked at tree.empty m after c i r p = (r, p)
  statement_checked at (tree.assign v f) m after c i r p = assign_checked all v.kind v.telling f m _ c.typed r (goes_on_lem all after p)
  statement_checked at (tree.print is) m after c i r p = print_checked all false is m _ c.typed r (goes_on_lem all after p)
  statement_checked at (tree.if_then f q) m after c i r p =
      whole_worked all f m _ c.typed r (λ w n s. by_choice (NextChecked all) (eqb w 0) (s, (p.0, tt)) (s, (p.0, i)))
  statement_checked at (tree.if_else f q o) m after c i r p =
      let b = parts_apart all (parts_of q) (parts_of o) i in
      whole_worked all f m _ c.typed r (λ w n s. (s, (p.0, by_choice (PartChecked all) (eqb w 0) b.1 b.0)))
  statement_checked at (tree.goto l) m after c i r p =
      line_found all l.0 all m (λ ls. enters m ls) (not-false _ c.named) lines (λ from h. (r, h))
  statement_checked at (tree.gosub l) m after c i r p =
      line_found all l.0 all m (λ ls. pushed m (call after) (λ n. enters n ls)) (not-false _ c.named) lines
      (λ from h. pushed_checked all m (call after) (λ n. enters n from) r p (λ n s. (s, h)))
  statement_checked at tree.return m after c i r p = returned_checked all m (sought is_call m.records) (sought_each (RecordChecked all) is_call m.records r)
  statement_checked at (tree.for v from to by) m after c i r p = for_checked at v from to by m after c.typed r p
  statement_checked at tree.next m after c i r p = next_checked all is_loop m after r p
  statement_checked at (tree.next_of v) m after c i r p =
      rw (number_kind v.kind c.typed) (next_checked all (is_loop_of v.telling) m after r p)
  statement_checked at (tree.while f) m after c i r p =
      while_checked all (wend_for at after.lines) at f m after c r p (past_checked all (pairs_by word.While word.Wend) at after.lines p.0)
  statement_checked at tree.wend m after c i r p =
      let test = is_while_of (start_of after.lines) at in
      back_checked all m (sought test m.records) (sought_each (RecordChecked all) test m.records r)
  statement_checked at (tree.line_input t v) m after c i r p =
      written_checked all m t _ r (λ n s. input_checked all n.input n v _ c.typed s (goes_on_lem all after p))
  statement_checked at (tree.data_of l) m after c i r p = (r, p)
  statement_checked at (tree.read vs) m after c i r p = read_checked all vs m _ r (goes_on_lem all after p)
  statement_checked at tree.restore m after c i r p = (r, p)
  statement_checked at (tree.restore_to l) m after c i r p =
      line_found all l.0 all m _ (not-false _ c.named) lines (λ from h. (r, p))
  statement_checked at tree.end m after c i r p = tt
  statement_checked at tree.stop m after c i r p = tt
  statement_checked at tree.remark m after c i r p = (r, p)
