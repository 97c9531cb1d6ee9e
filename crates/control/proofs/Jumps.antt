-- GOTO, GOSUB and RETURN: the lines that a number leads to, a record more, and the records dropped.
use Rattle.std.specs.Prelude.{None, Option, Some, ℕ}
use mathlib.Core.Path.{◌≡◌, refl, ap, ◌∙◌}
use mathlib.Core.Bool.{Bool, true, false, false≢true}
use mathlib.Core.List.{List}
use Prim.Native.Nat.{ℕ, zero, suc, ◌≤◌, ◌<◌}
use native.Mathlib.Omega.{arith}
use lib.Dec.{leb}
use lib.ListN.{get_or}
use Rattle.whole.proofs.Never.{never}
use Rattle.whole.specs.declared.errors.Error.TheVariants.{OutOfMemory, UndefinedLine, ReturnWithoutGosub}
use Rattle.words.specs.declared.places.LineNumber.{LineNumber}
use Rattle.words.proofs.Choices.{by_test}
use Rattle.loader.specs.Lines.{Line, lines_of, from_number, find_line}
use Rattle.loader.specs.declared.lines.LineSpan.{LineSpan}
use Rattle.grammar.specs.Trees as tree
use Rattle.machine.specs.Machine as spec
use Rattle.machine.specs.Machine.{is_call}
use Rattle.machine.specs.bridge.Holding.{lines_at, position_of, Positioned, blank_record, passes, back_of, call_record, record_of, records_in, Placed, Sound, State}
use Rattle.machine.specs.bridge.Wanted.{is_sought, found_in, Told}
use Rattle.machine.specs.declared.positions.Position.{Position}
use Rattle.machine.specs.declared.positions.Next.TheVariants as next
use Rattle.machine.specs.declared.records.Record.{Record}
use Rattle.machine.specs.declared.records.Sought.{Sought}
use Rattle.machine.proofs.Stacking.{by_kind, is_call_lem, call_back, call_held}
use Rattle.machine.proofs.Standing.{found_begins, found_none}
use Rattle.turns.specs.Steps as step
use Rattle.turns.specs.Steps.{goes_on, enters, to_line, returned, do_statement}
use Rattle.turns.specs.bridge.Turns.{turned_to, pushed_turn, Turns, AnyRecords, FoundBelow, with_depth}
use Rattle.control.specs.bridge.Answers.{calling_of}
use Rattle.control.specs.declared.jumping.Calling.TheVariants as calling
use Rattle.turns.proofs.Keeping.{leaves_unprinted}
use Rattle.turns.proofs.Leading.{turns_fails, turns_enters, turns_unwritten}
use Rattle.turns.proofs.Pushing.{sound_depth, same_fewer, turns_pushed}

-- a GOSUB's record comes back to a place where a statement stands, and has no variable
call_placed : (text : List ℕ) (numbers : ℕ) (back : Position) → Positioned text back → Placed text numbers (call_record back)
call_placed text numbers back p = record { back = rw (call_back back) p; known = λ e. absurd (false≢true e); paired = λ e. absurd (false≢true e) }

-- what passes the test of a GOSUB's is one
call_found : (text names : List ℕ) (e : Record) → is_call (record_of text names e) ≡ true → passes e ≡ false
call_found text names e t =
    by_kind e (λ f. absurd (false≢true (rw f at t))) (λ f g. absurd (false≢true (rw (f, g) at t))) (λ f g. rw (f, g))

-- ---- the lines that a number leads to

module _ {text : List ℕ} {m : State} {input space room : List ℕ} (number : LineNumber) (sound : Sound m input space room) where
  -- whatever would be done there
  pub line_missing : (go : spec.Machine → List Line → step.Next) → find_line text number ≡ None
      → Turns text m input space room AnyRecords (λ n. to_line n (from_number number.0 (lines_of text)) (go n))
      (turned_to m (next.Fails UndefinedLine)) space room
  line_missing go e =
      turns_fails (leaves_unprinted sound refl refl refl)
      (λ rs t n s. record { machine = n; is = rw (found_none text number e); same = s })

  pub goto_found : (at : ℕ) (after : spec.Position) {span : LineSpan} → find_line text number ≡ Some span
      → Turns text m input space room AnyRecords (λ n. do_statement text at (tree.goto number) n after) (turned_to m (next.Enter span.place)) space room
  goto_found at after {span} e =
      let f = found_begins text number e in
      turns_enters (leaves_unprinted sound refl refl refl) f.begins
      (λ rs t n s. record { machine = n; is = rw (← f.lines, f.begins.here); same = s })

  pub gosub_found : (at : ℕ) (back : Position) {span : LineSpan} → Positioned text back → find_line text number ≡ Some span
      → Turns text m input space room AnyRecords (λ n. do_statement text at (tree.gosub number) n (position_of text back))
      (pushed_turn m (call_record back) (next.Enter span.place)) space room
  gosub_found at back {span} p e =
      let f = found_begins text number e in
      turns_pushed (call_record back) (next.Enter span.place) (spec.call (position_of text back)) (call_held text m.tables.numbers.names back) (λ o. enters o (lines_at text span.place.0)) sound refl refl refl (call_placed text m.tables.numbers.count back p)
      (λ o S s. (f.begins, (refl, s)))
      (λ rs t n s. record { machine = n; is = rw (← f.lines, f.begins.here); same = s })

  -- where no record is left
  pub gosub_full : (at : ℕ) (back : Position) {span : LineSpan} → Positioned text back → find_line text number ≡ Some span
      → leb m.records m.depth ≡ true
      → Turns text m input space room AnyRecords (λ n. do_statement text at (tree.gosub number) n (position_of text back))
      (turned_to m (next.Fails OutOfMemory)) space room
  gosub_full at back p e full = rw full at (gosub_found at back p e)

-- ---- what became of a GOSUB tells of its line and of room

pub calls_none : (f : Option LineSpan) (full : Bool) → calling_of f full ≡ calling.NoLine → f ≡ None
calls_none None full e = refl
calls_none (Some span) true e = never (cc)
calls_none (Some span) false e = never (cc)

pub record FullAt (f : Option LineSpan) (full : Bool) : Type 0 where
  pub span : LineSpan
  pub is : f ≡ Some span
  pub so : full ≡ true

pub calls_full : (f : Option LineSpan) (full : Bool) → calling_of f full ≡ calling.NoRecord → FullAt f full
calls_full None full e = never (cc)
calls_full (Some span) true e = record { span = span; is = refl; so = refl }
calls_full (Some span) false e = never (cc)

pub record Finds (f : Option LineSpan) : Type 0 where
  pub span : LineSpan
  pub is : f ≡ Some span

pub calls_to : (f : Option LineSpan) (full : Bool) → calling_of f full ≡ calling.Goes → Finds f
calls_to None full e = never (cc)
calls_to (Some span) true e = never (cc)
calls_to (Some span) false e = record { span = span; is = refl }

-- ---- the nearest GOSUB's record

module _ {text : List ℕ} {m : State} {input space room : List ℕ} (entry : Record) (at : ℕ) (after : spec.Position) (sound : Sound m input space room) where
  pub back_missing : Turns text m input space room (Told text m.tables.numbers.names is_call m.depth None entry) (λ n. do_statement text at tree.return n after)
      (turned_to m (next.Fails ReturnWithoutGosub)) space room
  back_missing =
      turns_fails (leaves_unprinted sound refl refl refl)
      (λ rs t n s.
      record {
        machine = n;
        is = ap (λ x. returned n x) (ap (spec.sought is_call) s.records ∙ t);
        same = s;
      })

  pub back_found : (slot : ℕ) → slot < m.depth
      → Turns text m input space room (Told text m.tables.numbers.names is_call m.depth (Some slot) entry) (λ n. do_statement text at tree.return n after)
      (turned_to (with_depth m slot) (next.On (back_of entry))) space room
  back_found slot b =
      turns_unwritten (leaves_unprinted (sound_depth slot (omega (arith, sound.deep)) sound) refl refl refl)
      (λ rs t n s.
      let under = records_in text m.tables.numbers.names rs slot in
      let c = is_call_lem text m.tables.numbers.names entry (call_found text m.tables.numbers.names entry t.passes) in
      let does : returned n (spec.sought is_call n.records) ≡ goes_on (spec.with_records n under) (position_of text (back_of entry)) =
      ap (λ x. returned n x) (ap (spec.sought is_call) s.records ∙ t.is ∙ ap (λ r. spec.found r under) c) in
      let h : slot ≤ m.depth = omega arith in
      let here : Positioned text (back_of entry) = rw t.at (s.placed slot b).back in
      rw does (here, (refl, same_fewer slot h s)))

-- ---- what is found is one of the records

below_more : (d : ℕ) (f : Option ℕ) → FoundBelow d f → FoundBelow (suc d) f
below_more d (Some i) h = omega arith
below_more d None h = tt

pub found_low : (k : Sought) (rs : List Record) (d : ℕ) → FoundBelow d (found_in k rs d)
unfolding found_in
found_low k rs zero = tt
found_low k rs (suc d) =
    let x = get_or rs d blank_record in
    by_test (is_sought k x) (λ t. rw t (omega arith)) λ t.
    by_test (passes x) (λ l. rw (t, l) (below_more d (found_in k rs d) (found_low k rs d))) (λ l. rw (t, l) tt)
