-- FOR: its formulas are worked out, its variable is set, an older loop of it is dropped, and its body is skipped or a record is made.
use Rattle.std.specs.Prelude.{None, Option, Some, ℕ, Ok}
use mathlib.Core.Path.{◌≡◌, refl, sym, ap, ◌∙◌}
use mathlib.Core.Bool.{Bool, true, false, false≢true, cond}
use mathlib.Core.List.{List}
use Prim.Native.Nat.{ℕ, ◌≤◌, ◌<◌}
use native.Mathlib.Omega.{arith}
use Rattle.whole.proofs.Never.{never}
use Rattle.whole.specs.declared.errors.Error.TheVariants.{OutOfMemory, TypeMismatch}
use Rattle.words.specs.declared.names.Kind.TheVariants as kind
use Rattle.words.specs.declared.names.Name.{Name}
use Rattle.words.specs.Names.{Telling, alike}
use Rattle.words.specs.declared.places.Place.{Place}
use Rattle.words.specs.declared.symbols.Scanned.{Scanned}
use Rattle.words.specs.declared.symbols.Sign.TheVariants.{Equal}
use Rattle.words.specs.declared.symbols.Word.TheVariants.{To, Step}
use Rattle.words.proofs.Choices.{by_test}
use Rattle.grammar.specs.Tests.{choose, is_symbol, is_keyword}
use Rattle.grammar.specs.Trees as tree
use Rattle.grammar.specs.Trees.{Formula, number, Variable, Statement}
use Rattle.expressions.specs.Types.{deepest_nesting, depth_of}
use Rattle.statements.specs.Parts.{deepest}
use Rattle.grammar.specs.Formulas as formulas
use Rattle.grammar.specs.Formulas.{Reading, good, after, formula_of}
use Rattle.statements.specs.Statements.{Begun, bad, done, on_formula, variable_of, limit_at, step_at, for_at}
use Rattle.words.proofs.Tellings.{told_again}
use Rattle.variables.specs.bridge.Memory.{Tells, name_at}
use Rattle.variables.proofs.Names.{alike_is}
use Rattle.variables.proofs.StoredNumbers.{number_stored_lem}
use Rattle.variables.specs.declared.values.Worked.TheVariants.{Whole}
use Rattle.machine.specs.Machine as spec
use Rattle.machine.specs.Machine.{is_loop_of, noting, room_of, passed}
use Rattle.machine.specs.bridge.Holding.{lines_at, position_of, Positioned, loop_record, record_of, Placed, Settled, Sound, Same, State}
use Rattle.machine.specs.bridge.Wanted.{Told}
use Rattle.machine.specs.declared.positions.Position.{Position}
use Rattle.turns.specs.bridge.Turns.{Turn, turned_to, pushed_turn, after_of, Turns, Formed, Valued, FoundBelow, number_set, Storage}
use Rattle.machine.specs.declared.positions.Next.{Next}
use Rattle.machine.specs.declared.positions.Next.TheVariants as next
use Rattle.machine.specs.Order.{next_for}
use Rattle.machine.specs.declared.records.Record.{Record}
use Rattle.machine.proofs.Stacking.{loop_back, loop_held}
use Rattle.machine.proofs.Searching.{told_kept}
use Rattle.turns.specs.Steps as step
use Rattle.turns.specs.Steps.{goes_on, pushed, cleared, begun, from_step, from_start, do_statement}
use Rattle.control.specs.bridge.Answers.{Counts, dropped_to, step_of, Stepped, Limited}
use Rattle.control.specs.bridge.Skipping.{Skips, LoopBegun}
use Rattle.turns.proofs.Keeping.{sound_kept, same_noting, leaves_unprinted}
use Rattle.turns.proofs.Leading.{Led, turns_unwritten, turns_fails, turns_then}
use Rattle.turns.proofs.Storing.{number_settled, leads_number, sound_tables}
use Rattle.turns.proofs.Pushing.{sound_depth, same_fewer, turns_pushed}
use Rattle.turns.proofs.Wholes.{turns_as, turns_whole}
use Rattle.control.proofs.One.{one}
use Rattle.control.proofs.Skips.{skip_comes}

-- ---- a FOR, taken apart

record Worth (x : Reading) (go : Formula → Scanned → Begun) (y : Statement) (u : Scanned) : Type 0 where
  of : Formula
  at : Scanned
  is : x ≡ good of at
  goes : go of at ≡ done y u

worth : (x : Reading) (go : Formula → Scanned → Begun) {y : Statement} {u : Scanned} → on_formula x go ≡ done y u → Worth x go y u
worth formulas.bad go e = never (cc)
worth (formulas.good f t) go e = record { of = f; at = t; is = refl; goes = e }

so : (test : Bool) (go : Unit {0} → Begun) {y : Statement} {u : Scanned} → choose test go (λ _. bad) ≡ done y u → go tt ≡ done y u
so true go e = e
so false go e = never (cc)

-- where its formulas begin and end
pub record ForRead (s : List ℕ) (t : Scanned) (a b c : Formula) (u : Scanned) : Type 0 where
  pub upto : Scanned
  pub from : formula_of s (after s t) ≡ good a upto
  pub steps : Scanned
  pub limit : formula_of s (after s upto) ≡ good b steps
  pub by : step_of s steps ≡ good c u

module _ (s : List ℕ) (v : Variable) (t : Scanned) {a b c : Formula} {u : Scanned} where
  -- the formulas that were read are the statement's
  for_last : {x y z : Formula} {upto steps w : Scanned} → formula_of s (after s t) ≡ good x upto → formula_of s (after s upto) ≡ good y steps
      → step_of s steps ≡ good z w → done (tree.for v x y z) w ≡ done (tree.for v a b c) u → ForRead s t a b c u
  for_last {x} {y} {z} {upto} {steps} {w} i j k g =
      let d : x ≡ a = cc in
      let e : y ≡ b = cc in
      let f : z ≡ c = cc in
      let h : w ≡ u = cc in
      record { upto = upto; from = rw (← d) i; steps = steps; limit = rw (← e) j; by = rw (← f, ← h) k }

  for_step : {x y : Formula} {upto steps : Scanned} → formula_of s (after s t) ≡ good x upto → formula_of s (after s upto) ≡ good y steps
      → step_at s v x y steps ≡ done (tree.for v a b c) u → ForRead s t a b c u
  for_step {x} {y} {upto} {steps} i j e =
      by_test (is_keyword Step steps.token)
      (λ h. let z = worth (formula_of s (after s steps)) (λ by w. done (tree.for v x y by) w) (rw h at e) in
      for_last i j (rw h z.is) z.goes)
      (λ h. for_last i j (rw h) (rw h at e))

  for_limit : {x : Formula} {upto : Scanned} → formula_of s (after s t) ≡ good x upto → limit_at s v x upto ≡ done (tree.for v a b c) u
      → ForRead s t a b c u
  for_limit {x} {upto} i e =
      let y = worth (formula_of s (after s upto)) (λ to w. step_at s v x to w) (so (is_keyword To upto.token) _ e) in
      for_step i y.is y.goes

  pub for_read : for_at s v t ≡ done (tree.for v a b c) u → ForRead s t a b c u
  unfolding for_at
  for_read e =
      let x = worth (formula_of s (after s t)) (λ from w. limit_at s v from w) (so (is_symbol Equal t.token) _ e) in
      for_limit x.is x.goes

-- its step, if it stands
module _ (s : List ℕ) (t : Scanned) {by : Formula} {u : Scanned} (e : step_of s t ≡ good by u) where
  pub step_stands : is_keyword Step t.token ≡ true → formula_of s (after s t) ≡ good by u
  step_stands h = rw h at e

  pub step_left_out : is_keyword Step t.token ≡ false → (by ≡ number 1) × (u ≡ t)
  step_left_out h = let g : good (number 1) t ≡ good by u = rw h at e in (cc, cc)

-- what working it out asks
pub step_formed : {line : List ℕ} {t : Scanned} → Stepped line t → is_keyword Step t.token ≡ true → Formed line (after line t)
step_formed {line} {t} s h =
    record {
      short = s.short;
      scans = record { from = t.next; is = refl };
      reads = record { of = s.step; next = s.end; is = step_stands line t s.reads h; shallow = s.shallow };
    }

module _ {line : List ℕ} {name : Name} {equals : Scanned} (k : Counts line name equals) where
  pub for_parts : ForRead line equals k.start k.limit k.step k.end
  for_parts = for_read line (variable_of line name) equals k.is

  -- none of its formulas nests too deep
  for_shallow : (depth_of k.start ≤ deepest_nesting) × ((depth_of k.limit ≤ deepest_nesting) × (depth_of k.step ≤ deepest_nesting))
  unfolding deepest
  for_shallow = let h = k.shallow in (omega arith, (omega arith, omega arith))

  pub start_formed : Formed line (after line equals)
  start_formed =
      record {
        short = k.short;
        scans = record { from = equals.next; is = refl };
        reads = record { of = k.start; next = for_parts.upto; is = for_parts.from; shallow = for_shallow.0 };
      }

  pub limit_read : Limited line (after line for_parts.upto)
  limit_read =
      record {
        scans = record { from = for_parts.upto.next; is = refl };
        limit = k.limit;
        at = for_parts.steps;
        reads = for_parts.limit;
        shallow = for_shallow.1.0;
        steps = record { short = k.short; step = k.step; end = k.end; reads = for_parts.by; shallow = for_shallow.1.1 };
      }

-- ---- the record of a FOR

-- an older loop of the variable is dropped
module _ {text : List ℕ} {rs : List Record} {m : State} {input space room : List ℕ} (entry : Record) (name : Telling) {q : spec.Machine}
    (same : Same text rs m input space room q) where
  same_dropped : (f : Option ℕ) → Told text m.tables.numbers.names (is_loop_of name) m.depth f entry rs
      → Same text rs (dropped_to m f) input space room (cleared name q)
  same_dropped None t = rw (ap (spec.sought (is_loop_of name)) same.records ∙ t) same
  same_dropped (Some i) t =
      let h : i ≤ m.depth = omega (arith, t.below) in
      rw (ap (spec.sought (is_loop_of name)) same.records ∙ t.is) (same_fewer i h same)

module _ {m : State} {input space room : List ℕ} where
  sound_dropped : (f : Option ℕ) → FoundBelow m.depth f → Sound m input space room → Sound (dropped_to m f) input space room
  sound_dropped None b h = h
  sound_dropped (Some i) b h = sound_depth i (omega (arith, h.deep)) h

dropped_steps : (m : State) (f : Option ℕ) → (dropped_to m f).steps ≡ m.steps
dropped_steps m None = refl
dropped_steps m (Some i) = refl

dropped_tables : (m : State) (f : Option ℕ) → (dropped_to m f).tables ≡ m.tables
dropped_tables m None = refl
dropped_tables m (Some i) = refl

dropped_printer : (m : State) (f : Option ℕ) → (dropped_to m f).printer ≡ m.printer
dropped_printer m None = refl
dropped_printer m (Some i) = refl

-- a variable is set
pub sound_set : {m : State} {input space room : List ℕ} (name : Telling) → Tells name → (w : ℕ) → Sound m input space room
    → Sound (number_set m name w).state input space room
sound_set name own w s = sound_tables s (number_settled name own w s.settled)

-- the record made is that of the variable's loop
module _ (text : List ℕ) {m : State} {space : List ℕ} (name : Telling) (own : Tells name) (from limit by : ℕ) (back : Position) (f : Option ℕ) (settled : Settled m space)
    (yes : (number_set m name from).ok ≡ true) where
  abbrev made : Storage
  made = number_set m name from

  made_slot : (made.slot < made.state.tables.numbers.count) × (alike (name_at made.state.tables.numbers.names made.slot) name ≡ true)
  made_slot = (number_stored_lem m.tables.numbers name from settled.numbers own).slot yes

  loop_is : record_of text (dropped_to made.state f).tables.numbers.names (loop_record made.slot limit by back)
      ≡ spec.loop name limit by (position_of text back)
  loop_is =
      rw (dropped_tables made.state f)
      (loop_held text made.state.tables.numbers.names made.slot limit by back
      ∙ ap (λ v. spec.loop v limit by (position_of text back)) (alike_is (name_at made.state.tables.numbers.names made.slot) name (told_again _) own made_slot.1))

  loop_placed : Positioned text back → Placed text (dropped_to made.state f).tables.numbers.count (loop_record made.slot limit by back)
  loop_placed p =
      rw (dropped_tables made.state f) (record { back = rw (loop_back made.slot limit by back) p; known = λ _. made_slot.0; paired = λ e. absurd (false≢true e) })

module _ {text : List ℕ} {m : State} {input space room : List ℕ} (entry : Record) (at : Place) (name : Telling) (own : Tells name) (from limit by : ℕ) (back : Position) (f : Option ℕ)
    (sound : Sound m input space room) (low : FoundBelow m.depth f) (p : Positioned text back) {r : Turn} (b : LoopBegun text at m name from limit by back f r) where
  abbrev ToldHere : List Record → Type 0
  ToldHere = Told text m.tables.numbers.names (is_loop_of name) m.depth f entry

  -- what the definition does once they are
  abbrev after_clearing : spec.Machine → step.Next
  after_clearing q =
      cond (passed from limit by)
      (step.skipped name (next_for at.0 (lines_at text back.line.0)) q)
      (pushed q (spec.loop name limit by (position_of text back)) (λ o. goes_on o (position_of text back)))

  -- the variable is set, and an older loop of it is dropped
  module _ (yes : (number_set m name from).ok ≡ true) where
    abbrev under : State
    under = dropped_to (number_set m name from).state f

    sound_under : Sound under input space room
    sound_under = sound_dropped f low (sound_set name own from sound)

    -- whatever the definition does then
    leads_cleared : (go : spec.Machine → step.Next)
        → Led text m input space room ToldHere (λ n. step.store_number n name from (λ q. go (cleared name q))) under space room go
    leads_cleared go rs t n s =
        let k = rw yes at (leads_number name own from sound.settled s (λ q. go (cleared name q))) in
        let kept = number_stored_lem m.tables.numbers name from sound.settled.numbers own in
        let names = (number_set m name from).state.tables.numbers.names in
        let u = told_kept text m.tables.numbers.names names m.tables.numbers.count kept.names rs (is_loop_of name) m.depth
        (λ i h. (s.placed i h).known) f entry t in
        record { machine = _; is = k.is; same = same_dropped entry name k.same f u }

    turns_skipped : passed from limit by ≡ true
        → Turns text m input space room ToldHere (begun name at.0 (position_of text back) from limit by) (turned_to under b.skip) space room
    turns_skipped q =
        turns_unwritten (leaves_unprinted sound_under refl (dropped_steps (number_set m name from).state f) (dropped_printer (number_set m name from).state f))
        (λ rs t n s. let k = leads_cleared after_clearing rs t n s in rw (k.is, q) (skip_comes text name (next_for at.0 (lines_at text back.line.0)) b.skip _ (b.skips yes q) k.same))

    turns_made : passed from limit by ≡ false
        → Turns text m input space room ToldHere (begun name at.0 (position_of text back) from limit by)
        (pushed_turn under (loop_record (number_set m name from).slot limit by back) (next.On back)) space room
    turns_made q =
        let set = number_set m name from in
        turns_pushed (loop_record set.slot limit by back) (next.On back) (spec.loop name limit by (position_of text back)) (loop_is text name own from limit by back f sound.settled yes)
        (λ r. goes_on r (position_of text back)) sound_under refl (dropped_steps set.state f) (dropped_printer set.state f) (loop_placed text name own from limit by back f sound.settled yes p) (λ o S s. (p, (refl, s)))
        (λ rs t n s. let k = leads_cleared after_clearing rs t n s in record { machine = k.machine; is = k.is ∙ rw q; same = k.same })

  pub turns_loop : Turns text m input space room ToldHere (begun name at.0 (position_of text back) from limit by) r space room
  turns_loop =
      by_test (number_set m name from).ok
      (λ e. by_test (passed from limit by)
      (λ q. let is : r ≡ turned_to (under e) b.skip = b.is ∙ rw (e, q) in rw is (turns_skipped e q))
      (λ q. let is : r ≡ pushed_turn (under e) (loop_record (number_set m name from).slot limit by back) (next.On back) = b.is ∙ rw (e, q) in
      rw is (turns_made e q)))
      (λ e. let is : r ≡ turned_to (number_set m name from).state (next.Fails OutOfMemory) = b.is ∙ rw e in rw is
      (turns_fails (leaves_unprinted (sound_set name own from sound) refl refl refl)
      (λ rs t n s. rw e at (leads_number name own from sound.settled s (λ q. after_clearing (cleared name q))))))

  -- the step that is left out is 1
  pub turns_by_one : by ≡ 1 → Turns text m input space room ToldHere (from_step name at.0 (position_of text back) (number 1) from limit) r space room
  turns_by_one e =
      turns_then (leaves_unprinted {r = turned_to m next.Ends} sound refl refl refl)
      (λ rs t n s.
      record { machine = noting n (room_of n); is = rw (one n.variables (room_of n), e); same = same_noting s (room_of n) })
      turns_loop

-- what the code makes, by whether there was room for the variable, and whether the body is skipped
module _ (text : List ℕ) (at : Place) (m : State) (name : Telling) (from limit by : ℕ) (back : Position) (f : Option ℕ) {s : Storage} (e : s ≡ number_set m name from) where
  pub begun_full : s.ok ≡ false → LoopBegun text at m name from limit by back f (turned_to s.state (next.Fails OutOfMemory))
  begun_full h =
      let k : (number_set m name from).ok ≡ false = rw e at h in
      record { skip = next.Ends; skips = λ ok q. absurd (false≢true (sym k ∙ ok)); is = rw (k, e) }

  pub begun_skips : s.ok ≡ true → passed from limit by ≡ true → {d : State} → d ≡ dropped_to s.state f → {skip : Next}
      → Skips text name skip (next_for at.0 (lines_at text back.line.0)) → {r : Turn} → r ≡ turned_to d skip
      → LoopBegun text at m name from limit by back f r
  begun_skips h q low {skip} skips is =
      let k : (number_set m name from).ok ≡ true = rw e at h in
      record { skip = skip; skips = λ _ _. skips; is = is ∙ rw (low, k, q, e) }

  pub begun_made : s.ok ≡ true → passed from limit by ≡ false → {b : Position} → b ≡ back → {d : State} → d ≡ dropped_to s.state f
      → {held : Record} → held ≡ loop_record s.slot limit by b → {r : Turn} → r ≡ pushed_turn d held (next.On b)
      → LoopBegun text at m name from limit by back f r
  begun_made h q same low made is =
      let k : (number_set m name from).ok ≡ true = rw e at h in
      record { skip = next.Ends; skips = λ _ so. absurd (false≢true (sym q ∙ so)); is = is ∙ rw (made, low, same, k, q, e) }

-- with the step that was worked out
module _ {text : List ℕ} {m : State} {input space room : List ℕ} (entry : Record) (at : Place) (name : Telling) (own : Tells name) (from limit : ℕ) (here : Place) (f : Option ℕ)
    (sound : Sound m input space room) (low : FoundBelow m.depth f) where
  pub turns_stepped : {by : Formula} {w : ℕ} {u x : Scanned} {space' : List ℕ} {r : Turn} → Positioned text (after_of here u)
      → Valued m by u space (Ok (Whole w x)) space' → LoopBegun text at m name from limit w (after_of here x) f r
      → Turns text m input space room (Told text m.tables.numbers.names (is_loop_of name) m.depth f entry)
      (from_step name at.0 (position_of text (after_of here u)) by from limit) r space' room
  turns_stepped {w = w} {u = u} p v b =
      turns_whole (begun name at.0 (position_of text (after_of here u)) from limit) sound v
      (turns_loop entry at name own from limit w (after_of here u) f (sound_kept v.framed.long sound) low p (rw v.goes at b))

-- ---- the whole statement

module _ {text : List ℕ} {m : State} {input space room : List ℕ} {ToldHere : List Record → Type 0} (at : ℕ) (v : Variable) (a b c : Formula)
    (after : spec.Position) where
  -- the name's type is tested first
  pub for_text : v.kind ≡ kind.Text → Sound m input space room
      → Turns text m input space room ToldHere (λ n. do_statement text at (tree.for v a b c) n after) (turned_to m (next.Fails TypeMismatch)) space room
  for_text e h =
      turns_fails (leaves_unprinted h refl refl refl) (λ rs t n s. record { machine = n; is = rw e; same = s })

  pub for_whole : {space' : List ℕ} {r : Turn} → v.kind ≡ kind.Whole
      → Turns text m input space room ToldHere (λ n. from_start v.telling at after a b c n) r space' room
      → Turns text m input space room ToldHere (λ n. do_statement text at (tree.for v a b c) n after) r space' room
  for_whole e t = turns_as (λ n. rw e) t
