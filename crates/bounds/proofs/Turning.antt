-- One turn: each statement of a bounded recipe leaves at least one statement less ahead, wherever the run goes on.
use Rattle.std.specs.Prelude.{Err, Ok, Result, ℕ}
use mathlib.Core.Path.{◌≡◌, refl, ◌∙◌, ap}
use mathlib.Core.Bool.{Bool, true, false, cond, false≢true}
use mathlib.Core.List.{List, [], ◌∷◌, IsSuffix, suffix-cons, IsSuffix-trans}
use Prim.Native.Nat.{ℕ, suc, ◌+◌, ◌-◌, ◌≤◌, ◌<◌}
use native.Mathlib.Omega.{arith}
use borrow.Author.Tests.{ltb-true}
use lib.Dec.{ltb, eqb}
use lib.ListN.{length, length-append}
use Rattle.whole.specs.Digits.{leading_value, number_item}
use Rattle.whole.specs.declared.errors.Error.{Error}
use Rattle.words.specs.declared.names.Kind.{Kind}
use Rattle.words.specs.declared.names.Kind.TheVariants as kind
use Rattle.words.specs.Names.{Telling}
use Rattle.words.specs.declared.places.LineNumber.{LineNumber}
use Rattle.words.proofs.Choices.{by_test}
use Rattle.loader.specs.Lines.{Line, lines_of, from_number, after_number, next_line}
use Rattle.loader.proofs.Rising.{Rising}
use Rattle.grammar.specs.Trees as tree
use Rattle.grammar.specs.Trees.{Formula, Variable, Item, Statement, Part, last, more}
use Rattle.statements.specs.Parts.{Rest, nothing, part, head_of, tail_of, place_of, parts_of, parts_within, heads}
use Rattle.statements.proofs.Depths.{heads_append}
use Rattle.reader.specs.Lines.{Judgement, unreadable, too_deep, holds, judgement}
use Rattle.variables.specs.Strings.{Value, whole, text, Outcome, value, fault, make}
use Rattle.variables.specs.Variables.{numbers_full, strings_full}
use Rattle.operators.specs.Values.{value_of}
use Rattle.machine.specs.Machine.{Position, Machine, room_of, with_step, with_input, with_items, noting, write, comma_blanks, longest_input_line}
use Rattle.machine.specs.Order.{parts_held}
use Rattle.order.proofs.Laws.{Every, every_front, every_back}
use Rattle.turns.specs.Steps.{Next, goes_on, enters, ends, stops, fails, worked, whole_only, worked_whole, assigned, written, shown_value, print_items, to_line, Taken, take_line, filled, line_taken, input_line, given_number, given, next_item, read_items, do_statement}
use Rattle.runner.specs.Run.{line_number_of, enter, judged_line, Standing, finished, at, by_entered, entering, onward, following, turn}
use Rattle.promises.proofs.Checked.Operators.{by_choice}
use Rattle.bounds.proofs.Ahead.{left_in, left_here, left_suffix, JumpsOn, PartOn, LinesOn, on_suffix, higher_suffix}

-- ---- what holds of an error and of what a statement comes to in the end holds of all that it may come to

module _ (P : Next → Type 0) (failing : (e : Error) (m : Machine) → P (fails e m)) where
  worked_by : (m : Machine) (x : Outcome) (go : Value → Machine → Next) → ((v : Value) (n : Machine) → P (go v n)) → P (worked m x go)
  worked_by m (value v room) go h = h v (noting m room)
  worked_by m (fault e room) go h = failing e (noting m room)

  pub whole_by : (f : Formula) (m : Machine) (go : ℕ → Machine → Next) → ((w : ℕ) (n : Machine) → P (go w n)) → P (worked_whole f m go)
  whole_by f m go h = worked_by m (value_of f m.variables (room_of m)) _ by_value
    where
      by_value : (v : Value) (n : Machine) → P (whole_only v n (λ w. go w n))
      by_value (whole w) n = h w n
      by_value (text b) n = failing _ n

  assigned_by : (k : Kind) (name : Telling) (v : Value) (m : Machine) (go : Machine → Next) → ((n : Machine) → P (go n)) → P (assigned k name v m go)
  assigned_by kind.Whole name (whole w) m go h = by_choice P (numbers_full m.variables.numbers name) (failing _ m) (h _)
  assigned_by kind.Whole name (text b) m go h = failing _ m
  assigned_by kind.Text name (whole w) m go h = failing _ m
  assigned_by kind.Text name (text b) m go h = by_choice P (strings_full m.variables.strings name) (failing _ m) (h _)

  pub value_by : (v : Variable) (f : Formula) (m : Machine) (go : Machine → Next) → ((n : Machine) → P (go n))
      → P (worked m (value_of f m.variables (room_of m)) (λ x n. assigned v.kind v.telling x n go))
  value_by v f m go h = worked_by m (value_of f m.variables (room_of m)) _ (λ x n. assigned_by v.kind v.telling x n go h)

  pub written_by : (m : Machine) (b : List ℕ) (go : Machine → Next) → ((n : Machine) → P (go n)) → P (written m b go)
  unfolding write
  written_by m b go h =
      by_test (ltb m.output_room (length m.output + length b)) (λ e. rw e (failing _ m)) (λ e. rw e (h _))

  pub items_by : (quiet : Bool) (is : List Item) (m : Machine) (go : Machine → Next) → ((n : Machine) → P (go n)) → P (print_items quiet is m go)
  unfolding print_items
  items_by quiet [] m go h = by_choice P quiet (h m) (written_by m (13 ∷ 10 ∷ []) go h)
  items_by quiet (tree.comma ∷ is) m go h = written_by m (comma_blanks m) _ (λ n. items_by true is n go h)
  items_by quiet (tree.semicolon ∷ is) m go h = items_by true is m go h
  items_by quiet (tree.shown f ∷ is) m go h =
      worked_by m (value_of f m.variables (room_of m)) _ (λ v n. written_by n (shown_value v) _ (λ o. items_by false is o go h))

  filled_by : (k : Kind) (name : Telling) (b : List ℕ) (m : Machine) (go : Machine → Next) → ((n : Machine) → P (go n)) → P (filled k name b m go)
  filled_by kind.Whole name b m go h = failing _ m
  filled_by kind.Text name b m go h = by_choice P (strings_full m.variables.strings name) (failing _ m) (h _)

  taken_by : (m : Machine) (v : Variable) (t : Taken) (go : Machine → Next) → ((n : Machine) → P (go n)) → P (line_taken m v t go)
  taken_by m v t go h =
      let n = with_input m t.left (m.taken + (length m.input - length t.left)) in
      by_choice P (ltb longest_input_line (length t.bytes)) (failing _ m)
      (worked_by n (make t.bytes (room_of n)) _ (λ b o. filled_by v.kind v.telling t.bytes o go h))

  pub input_by : (input : List ℕ) (m : Machine) (v : Variable) (go : Machine → Next) → ((n : Machine) → P (go n)) → P (input_line input m v go)
  input_by [] m v go h = failing _ m
  input_by (b ∷ s) m v go h = taken_by m v (take_line (b ∷ s)) go h

  given_by : (k : Kind) (name : Telling) (b : List ℕ) (m : Machine) (go : Machine → Next) → ((n : Machine) → P (go n)) → P (given k name b m go)
  given_by kind.Whole name b m go h = by_number (number_item b)
    where
      by_number : (a : Result ℕ Error) → P (given_number a name m go)
      by_number (Ok w) = by_choice P (numbers_full m.variables.numbers name) (failing _ m) (h _)
      by_number (Err e) = failing e m
  given_by kind.Text name b m go h =
      worked_by m (make b (room_of m)) _ (λ v n. by_choice P (strings_full n.variables.strings name) (failing _ n) (h _))

  pub read_by : (vs : List Variable) (m : Machine) (go : Machine → Next) → ((n : Machine) → P (go n)) → P (read_items vs m go)
  unfolding read_items
  read_by [] m go h = h m
  read_by (v ∷ vs) m go h = by_items m.items (λ n. read_by vs n go h)
    where
      by_items : (l : List (List ℕ)) → ((n : Machine) → P (read_items vs n go)) → P (next_item l m (λ b n. given v.kind v.telling b n (λ o. read_items vs o go)))
      by_items [] r = failing _ m
      by_items (b ∷ l) r = given_by v.kind v.telling b (with_items m l) _ r

  pub found_by : (m : Machine) (ls : List Line) (go : List Line → Next) → ((from : List Line) → P (go from)) → P (to_line m ls go)
  found_by m [] go h = failing _ m
  found_by m (l ∷ ls) go h = h (l ∷ ls)

  pub line_by : (m : Machine) (ls : List Line) (go : List Line → Next) → P (go ls) → P (to_line m ls go)
  line_by m [] go h = failing _ m
  line_by m (l ∷ ls) go h = h

-- ---- where a run of a bounded recipe stands; `all` are the recipe's lines

module _ (all : List Line) where
  -- at a part of a line, with at most so many statements ahead: those of the part and those of the lines after it
  pub record Stood (k : ℕ) (l : Line) (ls : List Line) (p : Part) : Type 0 where
    pub among : IsSuffix (l ∷ ls) all
    pub on : PartOn (leading_value l.bytes) p
    pub few : length (parts_of p) + left_in ls ≤ k

  abbrev pub StoodIn : ℕ → List Line → Part → Type 0
  StoodIn k [] p = ⊥
  StoodIn k (l ∷ ls) p = Stood k l ls p

  -- before a line
  pub record Before (k : ℕ) (ls : List Line) : Type 0 where
    pub among : IsSuffix ls all
    pub few : left_in ls ≤ k

  abbrev pub StandingWithin : ℕ → Standing → Type 0
  StandingWithin k (finished r) = Unit {0}
  StandingWithin k (at m lines p) = StoodIn k lines p

  abbrev RestWithin : ℕ → List Line → Rest → Type 0
  RestWithin k lines nothing = Before k (next_line lines)
  RestWithin k lines (part p) = StoodIn k lines p

  abbrev NextWithin : ℕ → Next → Type 0
  NextWithin k (goes_on m p) = RestWithin k p.lines p.rest
  NextWithin k (enters m lines) = Before k lines
  NextWithin k (ends m) = Unit {0}
  NextWithin k (stops m) = Unit {0}
  NextWithin k (fails e m) = Unit {0}

  -- where a run stands a statement is ahead
  some_ahead : (p : Part) → 1 ≤ length (parts_of p)
  unfolding parts_of
  some_ahead (last q x) = omega arith
  some_ahead (more q x r) = omega arith

  pub stood_some : {A : Type 0} (lines : List Line) (p : Part) → StoodIn 0 lines p → A
  stood_some [] p s = absurd s
  stood_some (l ∷ ls) p s = absurd (omega (arith, s.few, some_ahead p))

  -- ---- a statement

  -- what is known where one is begun: of the line, of its own parts, and of where the run goes on after it
  record Begun (k : ℕ) (l : Line) (ls : List Line) (x : Statement) (after : Position) : Type 0 where
    here : after.lines ≡ l ∷ ls
    among : IsSuffix (l ∷ ls) all
    jumps : JumpsOn (leading_value l.bytes) x
    own : Every (JumpsOn (leading_value l.bytes)) (heads (parts_within x))
    few : length (parts_within x) + left_in ls ≤ k
    goes : RestWithin k after.lines after.rest

  module _ (k : ℕ) where
    abbrev Goes : Next → Type 0
    Goes x = NextWithin k x

    failing : (e : Error) (m : Machine) → Goes (fails e m)
    failing e m = tt

    module _ {l : Line} {ls : List Line} {x : Statement} {after : Position} (b : Begun k l ls x after) where
      -- the line is over
      over_within : RestWithin k after.lines nothing
      over_within = rw b.here (record { among = IsSuffix-trans (suffix-cons l ls) b.among; few = omega (arith, b.few) })

      -- a part of an IF
      part_within : (p : Part) → PartOn (leading_value l.bytes) p → length (parts_of p) + left_in ls ≤ k → RestWithin k after.lines (part p)
      part_within p h f = rw b.here (record { among = b.among; on = h; few = f })

    -- one of the two parts
    one_within : {l : Line} {ls : List Line} {after : Position} (c : Formula) (p q : Part) (other : Bool) → Begun k l ls (tree.if_else c p q) after
        → RestWithin k after.lines (part (cond other q p))
    unfolding parts_of
    one_within c p q other b =
        let h = rw (heads_append (parts_of p) (parts_of q)) at b.own in
        let n = length-append (parts_of p) (parts_of q) in
        by_test other
        (λ e. rw e (part_within b q (every_back _ (heads (parts_of p)) (heads (parts_of q)) h) (omega (arith, b.few, n))))
        (λ e. rw e (part_within b p (every_front _ (heads (parts_of p)) (heads (parts_of q)) h) (omega (arith, b.few, n))))

  module _ (program : List ℕ) (is : all ≡ lines_of program) (rising : Rising 0 all) (k : ℕ) where
    -- the line that a jump names
    jump_within : (n : LineNumber) {l : Line} {ls : List Line} → IsSuffix (l ∷ ls) all → leading_value l.bytes < n.0 → left_in ls ≤ k → Before k (from_number n.0 (lines_of program))
    jump_within n {l} {ls} s h f =
        rw (← is)
        (let t = higher_suffix n.0 s rising h in
        record { among = IsSuffix-trans t (IsSuffix-trans (suffix-cons l ls) s); few = omega (arith, left_suffix t) })

    statement_within : (place : ℕ) (x : Statement) (m : Machine) (after : Position) {l : Line} {ls : List Line} → Begun k l ls x after
        → Goes k (do_statement program place x m after)
    unfolding parts_of
    statement_within place tree.empty m after b = b.goes
    statement_within place (tree.assign v f) m after b = value_by (Goes k) (failing k) v f m _ (λ n. b.goes)
    statement_within place (tree.print is) m after b = items_by (Goes k) (failing k) false is m _ (λ n. b.goes)
    statement_within place (tree.if_then c p) m after b =
        whole_by (Goes k) (failing k) c m _ (λ w n. by_choice (Goes k) (eqb w 0) (over_within k b) (part_within k b p b.own b.few))
    statement_within place (tree.if_else c p q) m after b = whole_by (Goes k) (failing k) c m _ (λ w n. one_within k c p q (eqb w 0) b)
    statement_within place (tree.goto n) m after b =
        line_by (Goes k) (failing k) m (from_number n.0 (lines_of program)) (λ to. enters m to) (jump_within n b.among (ltb-true _ _ b.jumps) (omega (arith, b.few)))
    statement_within place (tree.gosub n) m after b = absurd (false≢true b.jumps)
    statement_within place tree.return m after b = absurd (false≢true b.jumps)
    statement_within place (tree.for v from to by) m after b = absurd (false≢true b.jumps)
    statement_within place tree.next m after b = absurd (false≢true b.jumps)
    statement_within place (tree.next_of v) m after b = absurd (false≢true b.jumps)
    statement_within place (tree.while c) m after b = absurd (false≢true b.jumps)
    statement_within place tree.wend m after b = absurd (false≢true b.jumps)
    statement_within place (tree.line_input t v) m after b = written_by (Goes k) (failing k) m t _ (λ n. input_by (Goes k) (failing k) n.input n v _ (λ o. b.goes))
    statement_within place (tree.data_of l) m after b = b.goes
    statement_within place (tree.read vs) m after b = read_by (Goes k) (failing k) vs m _ (λ n. b.goes)
    statement_within place tree.restore m after b = b.goes
    statement_within place (tree.restore_to n) m after b = found_by (Goes k) (failing k) m (from_number n.0 (lines_of program)) _ (λ from. b.goes)
    statement_within place tree.end m after b = tt
    statement_within place tree.stop m after b = tt
    statement_within place tree.remark m after b = b.goes

  -- ---- entering a line, and going on

  module _ (on : LinesOn all) where
    pub entering_within : (k : ℕ) (m : Machine) (ls : List Line) → Before k ls → StandingWithin k (entering m ls)
    unfolding enter
    entering_within k m [] b = tt
    entering_within k m (l ∷ ls) b = by_judgement (judgement (after_number l)) refl
      where
        by_judgement : (j : Judgement) → judgement (after_number l) ≡ j → StandingWithin k (by_entered (judged_line j) m (l ∷ ls))
        by_judgement unreadable e = tt
        by_judgement too_deep e = tt
        by_judgement (holds p) e =
            let n : left_in (l ∷ ls) ≡ length (parts_of p) + left_in ls = left_here l ls ∙ ap (λ j. length (parts_held j) + left_in ls) e in
            record { among = b.among; on = (on_suffix b.among on).0 p e; few = omega (arith, b.few, n) }

    onward_within : (k : ℕ) (m : Machine) (lines : List Line) (r : Rest) → RestWithin k lines r → StandingWithin k (onward m lines r)
    onward_within k m lines nothing h = entering_within k m (next_line lines) h
    onward_within k m lines (part p) h = h

    following_within : (k : ℕ) (l : LineNumber) (x : Next) → NextWithin k x → StandingWithin k (following l x)
    following_within k l (goes_on m p) h = onward_within k m p.lines p.rest h
    following_within k l (enters m lines) h = entering_within k m lines h
    following_within k l (ends m) h = tt
    following_within k l (stops m) h = tt
    following_within k l (fails e m) h = tt

    -- ---- one turn

    -- the statement that a part begins, with one less ahead
    begun_within : (k : ℕ) (l : Line) (ls : List Line) (p : Part) → Stood (suc k) l ls p
        → Begun k l ls (head_of p) (record { lines = l ∷ ls; rest = tail_of p })
    unfolding parts_of heads
    begun_within k l ls (last q x) s = record {
      here = refl;
      among = s.among;
      jumps = s.on.0;
      own = s.on.1;
      few = omega (arith, s.few);
      goes = record { among = IsSuffix-trans (suffix-cons l ls) s.among; few = omega (arith, s.few) };
    }
    begun_within k l ls (more q x r) s =
        let h = rw (heads_append (parts_within x) (parts_of r)) at s.on.1 in
        let n = length-append (parts_within x) (parts_of r) in
        record {
          here = refl;
          among = s.among;
          jumps = s.on.0;
          own = every_front _ (heads (parts_within x)) (heads (parts_of r)) h;
          few = omega (arith, s.few, n);
          goes = record { among = s.among; on = every_back _ (heads (parts_within x)) (heads (parts_of r)) h; few = omega (arith, s.few, n) };
        }

    pub turn_within : (program : List ℕ) → all ≡ lines_of program → Rising 0 all → (k : ℕ) (m : Machine) (lines : List Line) (p : Part)
        → StoodIn (suc k) lines p → StandingWithin k (turn program m lines p)
    turn_within program is rising k m [] p s = absurd s
    turn_within program is rising k m (l ∷ ls) p s =
        let after : Position = record { lines = l ∷ ls; rest = tail_of p } in
        following_within k (line_number_of (l ∷ ls)) (do_statement program (place_of p) (head_of p) (with_step m) after)
        (statement_within program is rising k (place_of p) (head_of p) (with_step m) after (begun_within k l ls p s))
