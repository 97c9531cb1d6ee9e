-- One turn: the machine that a statement begins with, the record that it asked for, the statement that is done, and where it leads.
use Rattle.std.specs.Prelude.{ℕ}
use mathlib.Core.Path.{◌≡◌, refl, ap, sym, subst, ◌∙◌}
use mathlib.Core.Bool.{true}
use mathlib.Core.List.{List}
use Prim.Native.Nat.{ℕ}
use native.Mathlib.Omega.{arith}
use Rattle.words.specs.declared.places.Place.{Place}
use Rattle.words.specs.declared.symbols.Scanned.{Scanned}
use Rattle.scanner.specs.Tokens.{token_at}
use Rattle.loader.specs.declared.lines.LineSpan.{LineSpan}
use Rattle.grammar.specs.Trees.{Part}
use Rattle.statements.specs.Statements.{lead_of, good_part, part_of}
use Rattle.statements.specs.Parts.{head_of, tail_of, place_of}
use Rattle.rows.specs.bridge.Rows.{span_in, Tabled}
use Rattle.rows.specs.declared.cells.Row.{Row}
use Rattle.rows.proofs.Ordering.{row_lines}
use Rattle.machine.specs.Machine as spec
use Rattle.machine.specs.bridge.Holding.{lines_at, Parted, Fed, State, state_of, Sound, Same}
use Rattle.machine.specs.bridge.Wanted.{found_in, entry_at, Told}
use Rattle.machine.specs.bridge.Seeking.{Wish, wish_of, test_of}
use Rattle.machine.specs.declared.positions.Next.{Next}
use Rattle.machine.specs.declared.positions.Turned.{Turned}
use Rattle.machine.specs.declared.positions.Next.TheVariants as next
use Rattle.turns.specs.bridge.Turns.{Turn, turned_to, Comes, Leaves, Turns, FoundBelow, Standing, turn_of}
use Rattle.machine.specs.declared.records.Record.{Record}
use Rattle.machine.specs.declared.records.Sought.{Sought}
use Rattle.machine.proofs.Searching as search_laws
use Rattle.machine.proofs.Seeking.{part_seeks}
use Rattle.machine.proofs.Standing as told
use Rattle.machine.proofs.Standing.{told_as, part_place}
use Rattle.turns.specs.Steps as step
use Rattle.turns.specs.Steps.{do_statement}
use Rattle.control.proofs.Jumps.{found_low}
use Rattle.runner.specs.Run as run
use Rattle.runner.specs.bridge.Standings.{line_in, Stood, StandsAs, StandsIn, GoesTo, next_of}
use Rattle.runner.specs.bridge.Acting.{At, StandsAt, Asks, LooksUp, stepped, Ready, Acts, ActsAt}
use Rattle.runner.specs.declared.going.Acted.{Acted}
use Rattle.runner.specs.declared.going.Asked.{Asked}
use Rattle.runner.specs.declared.going.Lookup.{Lookup}
use Rattle.runner.specs.declared.standing.Standing as code
use Rattle.runner.specs.declared.standing.Standing.TheVariants as standing
use Rattle.runner.proofs.Entering.{row_numbered}
use Rattle.variables.specs.declared.tables.Tables.{Tables}

-- ---- one step more changes nothing else

sound_stepped : {m : State} {input space room : List ℕ} → Sound m input space room → Sound (stepped m) input space room
sound_stepped s =
    record {
      settled = record {
        numbers = s.settled.numbers;
        strings = s.settled.strings;
        all = s.settled.all;
        within = s.settled.within;
        small = s.settled.small;
      };
      fitting = s.fitting;
      taken = s.taken;
      deep = s.deep;
    }

same_stepped : {text : List ℕ} {rs : List Record} {m : State} {input space room : List ℕ} {n : spec.Machine}
    → Same text rs m input space room n → Same text rs (stepped m) input space room (spec.with_step n)
same_stepped s =
    record {
      variables = s.variables;
      records = s.records;
      record_room = s.record_room;
      slots = s.slots;
      few = s.few;
      column = s.column;
      output = s.output;
      output_room = s.output_room;
      left = s.left;
      taken = s.taken;
      feeds = s.feeds;
      steps = omega (arith, s.steps);
      limit = s.limit;
      placed = s.placed;
    }

-- ---- the statement

module _ {text : List ℕ} {span : LineSpan} {at : Place} (w : Stood text span at) where
  pub stood_told : told.Told text span.place.0 span
  stood_told = told_as w.begins w.loads w.spans

  pub stood_line : Standing text (line_in text span) span.place
  stood_line =
      let t = stood_told in
      record { loads = w.loads; short = rw t.body t.short; begins = w.begins; is = t.body }

  stood_reads : part_of (line_in text span) true at.0 ≡ good_part w.reads.of w.reads.end
  stood_reads = rw stood_told.body w.reads.is

  pub stood_parted : Parted (line_in text span) at.0
  stood_parted = record { of = w.reads.of; end = w.reads.end; is = stood_reads; shallow = w.reads.shallow }

-- what was left of a machine
leaves_as : {m : State} {input space room : List ℕ} {r : Turn} {space' room' : List ℕ} → Leaves m input space room r space' room'
    → Leaves m input space room (turned_to r.state next.Ends) space' room'
leaves_as l =
    record { sound = l.sound; space_long = l.space_long; room_long = l.room_long; steps = l.steps; more = l.more; beyond = l.beyond }

-- ---- where a statement leads

-- the definition goes on where the code does
pub record Came (text : List ℕ) (n : Next) (does : step.Next) (P : spec.Machine → Type 0) : Type 0 where
  pub machine : spec.Machine
  pub holds : P machine
  pub is : does ≡ next_of text n machine
  pub goes : GoesTo text n

pub came : (text : List ℕ) (n : Next) (does : step.Next) (P : spec.Machine → Type 0) → Comes text n does P → Came text n does P
came text (next.On q) (step.goes_on m p) P h = record { machine = m; holds = h.1.1; is = ap (step.goes_on m) (sym h.1.0); goes = h.0 }
came text (next.On q) (step.enters m ls) P h = absurd h
came text (next.On q) (step.ends m) P h = absurd h
came text (next.On q) (step.stops m) P h = absurd h
came text (next.On q) (step.fails f m) P h = absurd h
came text (next.Enter l) (step.goes_on m p) P h = absurd h
came text (next.Enter l) (step.enters m ls) P h = record { machine = m; holds = h.1.1; is = ap (step.enters m) (sym h.1.0); goes = h.0 }
came text (next.Enter l) (step.ends m) P h = absurd h
came text (next.Enter l) (step.stops m) P h = absurd h
came text (next.Enter l) (step.fails f m) P h = absurd h
came text next.Ends (step.goes_on m p) P h = absurd h
came text next.Ends (step.enters m ls) P h = absurd h
came text next.Ends (step.ends m) P h = record { machine = m; holds = h; is = refl; goes = tt }
came text next.Ends (step.stops m) P h = absurd h
came text next.Ends (step.fails f m) P h = absurd h
came text next.Stops (step.goes_on m p) P h = absurd h
came text next.Stops (step.enters m ls) P h = absurd h
came text next.Stops (step.ends m) P h = absurd h
came text next.Stops (step.stops m) P h = record { machine = m; holds = h; is = refl; goes = tt }
came text next.Stops (step.fails f m) P h = absurd h
came text (next.Fails e) (step.goes_on m p) P h = absurd h
came text (next.Fails e) (step.enters m ls) P h = absurd h
came text (next.Fails e) (step.ends m) P h = absurd h
came text (next.Fails e) (step.stops m) P h = absurd h
came text (next.Fails e) (step.fails f m) P h = record { machine = m; holds = h.1; is = ap (λ x. step.fails x m) (sym h.0); goes = tt }

-- ---- the record that was looked up

-- one that was found lies below the depth
pub looked_below : {k : Sought} {d : ℕ} {rs : List Record} {l : Lookup} → LooksUp k d rs l → FoundBelow d l.found
looked_below {k} {d} {rs} w = rw w.found (found_low k rs d)

-- ---- a turn

-- the statement that a run stands at
pub stands_here : {text rows : List ℕ} {s : code.Standing} {row : Row} {at : Place} → StandsAt text rows s → s ≡ standing.At row at → At text rows row.0 at
stands_here {row = row} {at = at} w e =
    let a : w.row ≡ row = cc w.is in let b : w.at ≡ at = cc w.is in rw (a, b) at w.here

-- acts
pub acts_at : {text rows : List ℕ} {s : code.Standing} {m : State} {asked : Asked} {lookup : Lookup} {input space room : List ℕ} {r : Acted} {m' : State} {space' room' : List ℕ}
    {row : Row} {at : Place} → s ≡ standing.At row at → Acts text rows row.0 at m asked lookup input space room r m' space' room'
    → ActsAt text rows s m asked lookup input space room r m' space' room'
acts_at {row = row} {at = at} e a =
    record { acts = λ row' at' e'. let x : row ≡ row' = cc in let y : at ≡ at' = cc in rw (x, y) at a }

module _ {text rows : List ℕ} {row : ℕ} {at : Place} {m : State} {asked : Asked} {lookup : Lookup} {input space room : List ℕ}
    (here : At text rows row at) (asks : Asks m.tables.numbers (line_in text (span_in rows row)) (span_in rows row).place at asked)
    (ready : Ready text m lookup input space room) where
  -- what the statement asks of the caller
  pub acts_begins : Standing text (line_in text (span_in rows row)) (span_in rows row).place
      × (Parted (line_in text (span_in rows row)) at.0
      × (Sound (stepped m) input space room
      × (FoundBelow m.depth lookup.found
      × ((asked.lead ≡ lead_of (line_in text (span_in rows row)) true (token_at (line_in text (span_in rows row)) at)) × (Tabled text rows × Fed text m.feed)))))
  acts_begins =
      (stood_line here.stood, (stood_parted here.stood, (sound_stepped ready.sound, (ready.below, (asks.led, (here.tabled, ready.fed))))))

  -- and what it does
  pub acts_made : {turned : Turned} (tables : Tables) {s : code.Standing} {space' room' : List ℕ}
      → ((p : Part) (end : Scanned) → part_of (line_in text (span_in rows row)) true at.0 ≡ good_part p end
      → Turns text (stepped m) input space room (Told text m.tables.numbers.names (test_of (wish_of (span_in rows row).place.0 (place_of p) (head_of p))) m.depth lookup.found lookup.entry)
      (λ n. do_statement text (place_of p) (head_of p) n (record { lines = lines_at text (span_in rows row).place.0; rest = tail_of p })) (turn_of turned tables) space' room')
      → StandsIn rows s (λ x. GoesTo x turned.next) (λ x n. run.following (span_in rows row).number (next_of x turned.next n))
      → Acts text rows row at m asked lookup input space room
      (record { going = record { machine = turned.machine; standing = s }; slot = turned.slot; held = turned.held })
      (state_of turned.machine tables) space' room'
  acts_made {turned} tables {s} does follows =
      record {
        leaves = leaves_as (does _ _ (stood_reads here.stood)).leaves;
        rowed = follows.rowed;
        went = λ w rs look n same.
            let p = stood_reads w in
            let numbers = m.tables.numbers in
            let tidy = ready.sound.settled.numbers in
            let found = look.found ∙ ap (λ x. found_in x rs m.depth) (part_seeks numbers.names numbers.count (span_in rows row).place at (line_in text (span_in rows row)) at.0 asks.led asks.seeks _ _ p) in
            let entry = look.entry ∙ ap (λ x. entry_at x rs) found in
            let wish : ℕ → Wish = λ q. wish_of (span_in rows row).place.0 q (head_of w.reads.of) in
            let told : Told text numbers.names (test_of (wish (place_of w.reads.of))) m.depth lookup.found lookup.entry rs =
            rw (found, entry, part_place (line_in text (span_in rows row)) true at.0 w.reads.of p)
            (search_laws.told text numbers.names numbers.count tidy.few tidy.apart (wish at.0) rs m.depth same.placed) in
            let c = came text turned.next _ _ ((does _ _ p).comes rs told (spec.with_step n) (same_stepped same)) in
            let number : run.line_number_of (lines_at text (span_in rows row).place.0) ≡ (span_in rows row).number =
            ap run.line_number_of (row_lines here.tabled row here.inside) ∙ row_numbered here.tabled row here.inside in
            record {
              machine = c.machine;
              same = c.holds;
              stands =
                  subst (λ (x : run.Standing). StandsAs text rows s c.machine x)
                  (ap (λ x. run.following x (next_of text turned.next c.machine)) (sym number)
                  ∙ ap (run.following (run.line_number_of (lines_at text (span_in rows row).place.0))) (sym c.is))
                  (follows.stands text here.tabled c.goes c.machine);
            };
      }
