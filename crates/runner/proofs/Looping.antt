-- The run's loop: what holds at each of its turns, that a turn keeps it, and what it gives at the end.
use mathlib.Core.Path.{◌≡◌, refl, sym, ap, ◌∙◌}
use mathlib.Core.Bool.{true, false, false≢true}
use mathlib.Core.List.{List, []}
use Prim.Native.Nat.{ℕ, zero, suc, ◌+◌, ◌-◌, ◌≤◌, ◌<◌}
use native.Mathlib.Omega.{arith}
use borrow.Author.Tests.{ltb-true, ltb-false}
use lib.ListN.{length, drop, replicate}
use lib.Seq.{drop-drop}
use Rattle.loader.specs.Lines.{Line, lines_of}
use Rattle.grammar.specs.Trees.{Part}
use Rattle.space.specs.Moves.{cleared}
use Rattle.variables.specs.Tables.{empty_tables}
use Rattle.variables.specs.Strings.{longest_space}
use Rattle.variables.specs.Tables.{names_long, empty_tables}
use Rattle.variables.proofs.Holding.{empty_numbers, empty_strings, empty_numbers_held, empty_strings_held, empty_sum}
use Rattle.rows.specs.bridge.Rows.{span_in, Tabled}
use Rattle.rows.proofs.Ordering.{row_lines}
use Rattle.machine.specs.Machine.{lent_by, most_records}
use Rattle.machine.specs.Machine as spec
use Rattle.machine.specs.Items as text_items
use Rattle.machine.specs.bridge.Holding.{lines_at, fresh_machine, from_line, State, state_of, Sound, Same}
use Rattle.machine.specs.declared.records.Record.{Record}
use Rattle.machine.specs.declared.state.Machine.{Machine}
use Rattle.machine.proofs.Stacking.{records_none}
use Rattle.runner.specs.Run as run
use Rattle.runner.specs.Run.{finished, ends_with, running, entering, line_number_of, is_refused}
use Rattle.runner.specs.bridge.Standings.{AtAs, StandsAs, Rowed, StandsIn}
use Rattle.runner.specs.bridge.Acting.{goes_of, StandsAt, Acts}
use Rattle.runner.specs.bridge.Endings.{run_in, outcome_of, ended_as, RanAs}
use Rattle.runner.specs.bridge.Lending.{Awaits, StepsAs}
use Rattle.runner.specs.declared.going.Acted.{Acted}
use Rattle.runner.specs.declared.going.Going.{Going}
use Rattle.runner.specs.declared.running.Outcome.TheVariants.{Out}
use Rattle.runner.specs.declared.running.Ran.{Ran}
use Rattle.runner.specs.declared.standing.Standing.{Standing}
use Rattle.runner.specs.declared.standing.Standing.TheVariants as standing
use Rattle.runner.proofs.Entering.{row_numbered}
use Rattle.runner.proofs.Finishing.{ran_as}
use Rattle.variables.specs.declared.tables.Tables.{Tables}

-- ---- the definition's run

-- one that is over stays so,
running_over : (k : ℕ) (text : List ℕ) (r : run.Ran) → running k text (finished r) ≡ r
unfolding running
running_over zero text r = refl
running_over (suc k) text r = refl

-- and one with no step left is out of steps
running_out : (k : ℕ) (text : List ℕ) {s : run.Standing} → k ≡ 0 → (m : spec.Machine) (ls : List Line) (p : Part) → s ≡ run.at m ls p
    → running k text s ≡ ends_with (Out (line_number_of ls)) m
unfolding running
running_out k text z m ls p e = rw (z, e)

-- or else does a statement
running-turn : (k l : ℕ) (text : List ℕ) {s : run.Standing} → k ≡ suc l → (m : spec.Machine) (ls : List Line) (p : Part) → s ≡ run.at m ls p
    → running k text s ≡ running l text (run.turn text m ls p)
unfolding running
running-turn k l text z m ls p e = rw (z, e)

-- ---- what the loop keeps

-- the code's machine and standing are a definition's, from which what is left of the run comes to the same
pub record Kept (text rows input space₀ room₀ : List ℕ) (rs₀ : List Record) (budget : ℕ) (space room : List ℕ) (m : State) (s : Standing) (rs : List Record) : Type 0 where
  pub sound : Sound m input space room
  pub space_long : length space ≡ length space₀
  pub room_long : length room ≡ length room₀
  -- output beyond the bytes written is unchanged
  pub beyond : drop m.printer.written room ≡ drop m.printer.written room₀
  pub within : m.steps ≤ budget
  pub rowed : Rowed rows s
  -- the definition's machine, and where its run stands
  pub machine : spec.Machine
  pub same : Same text rs m input space room machine
  pub place : run.Standing
  pub stands : StandsAs text rows s machine place
  pub comes : running (budget - m.steps) text place ≡ run_in text input (lent_by space₀ room₀ (length rs₀)) budget

-- it holds at the start
module _ (text input space room : List ℕ) (rs : List Record) (small : length space ≤ longest_space) (few : length rs ≤ most_records) where
  abbrev fresh : State
  fresh = state_of (fresh_machine (length rs)) empty_tables

  fresh_sound : Sound fresh input space room
  fresh_sound =
      record {
        settled = record { numbers = empty_numbers; strings = empty_strings; all = empty_sum; within = omega arith; small = small };
        fitting = record { narrow = omega arith; within = omega arith };
        taken = omega arith;
        deep = omega arith;
      }

  abbrev start : spec.Machine
  start = text_items.fresh text input (lent_by space room (length rs))

  fresh_same : Same text rs fresh input space room start
  fresh_same =
      record {
        variables = rw (empty_numbers_held, empty_strings_held space);
        records = sym (records_none text (replicate names_long 0) rs);
        record_room = refl;
        slots = refl;
        few = few;
        column = refl;
        output = refl;
        output_room = refl;
        left = refl;
        taken = refl;
        feeds = from_line refl [] refl refl;
        steps = refl;
        limit = refl;
        placed = λ i h. absurd (omega arith);
      }

  pub kept_fresh : (budget : ℕ) {rows : List ℕ} {tables : Tables} {machine : Machine} {s : Standing} → Tabled text rows
      → tables ≡ empty_tables
      → (machine ≡ fresh_machine (length rs)) × StandsIn rows s (λ x. Unit {0}) (λ x n. entering n (lines_of x))
      → Kept text rows input space room rs budget space room (state_of machine tables) s rs
  kept_fresh budget {rows} {machine = machine} {s = s} t blank e =
      rw (e.0, blank)
      (record {
        sound = fresh_sound;
        space_long = refl;
        room_long = refl;
        beyond = refl;
        within = omega arith;
        rowed = e.1.rowed;
        machine = start;
        same = fresh_same;
        place = entering start (lines_of text);
        stands = e.1.stands text t tt start;
        comes = let z : budget - 0 ≡ budget = omega arith in rw z;
      })

-- what is dropped twice, further on
drop_more : (x y : List ℕ) (a b : ℕ) → a ≤ b → drop a x ≡ drop a y → drop b x ≡ drop b y
drop_more x y a b h e =
    let s : b ≡ a + (b - a) = omega arith in
    rw s (sym (drop-drop (b - a) a x) ∙ ap (drop (b - a)) e ∙ drop-drop (b - a) a y)

-- a run that goes on stands at a statement, and has a step left
module _ {text rows : List ℕ} (t : Tabled text rows) (m : spec.Machine) (p : run.Standing) {steps budget : ℕ} where
  goes_at : (s : Standing) → Rowed rows s → StandsAs text rows s m p → goes_of s steps budget ≡ true → StandsAt text rows s × (steps < budget)
  goes_at (standing.Over o) r w e = absurd (false≢true e)
  goes_at (standing.At row at) r w e =
      (record { row = row; at = at; is = refl; here = record { tabled = t; inside = r; stood = w.stood } }, ltb-true steps budget e)

  -- one that does not is over, or has none
  stays_out : (s : Standing) → Rowed rows s → StandsAs text rows s m p → steps ≤ budget → goes_of s steps budget ≡ false
      → (is_refused (outcome_of rows s) ≡ false) × (running (budget - steps) text p ≡ ends_with (outcome_of rows s) m)
  stays_out (standing.Over o) r w h e =
      (w.begun, ap (running (budget - steps) text) w.is ∙ running_over (budget - steps) text (ends_with o m))
  stays_out (standing.At row at) r w h e =
      let none : budget - steps ≡ 0 = omega (arith, ltb-false steps budget e) in (
        refl,
        running_out (budget - steps) text none _ _ _ w.is
            ∙ ap (λ x. ends_with (Out x) m) (ap line_number_of (row_lines t row.0 r) ∙ row_numbered t row.0 r),
      )

module _ {text rows input space₀ room₀ : List ℕ} {rs₀ : List Record} {budget : ℕ} {space room : List ℕ} {m : State} {s : Standing} {rs : List Record}
    (t : Tabled text rows) (k : Kept text rows input space₀ room₀ rs₀ budget space room m s rs) where
  -- where no step is made any more, the answer is the run's
  pub kept_out : goes_of s m.steps budget ≡ false → {r : Ran} {space' : List ℕ}
      → r ≡ ended_as (outcome_of rows s) m → space' ≡ cleared space m.used
      → RanAs (run_in text input (lent_by space₀ room₀ (length rs₀)) budget) space₀ room₀ r space' room
  kept_out e a b =
      let o = stays_out t k.machine k.place s k.rowed k.stands k.within e in
      ran_as k.sound k.same (outcome_of rows s) o.0 (sym o.1 ∙ k.comes) space₀ room₀ k.space_long k.beyond a b

  module _ (e : goes_of s m.steps budget ≡ true) where
    -- otherwise a statement is done,
    pub kept_at : StandsAt text rows s
    kept_at = (goes_at t k.machine k.place s k.rowed k.stands e).0

    left : m.steps < budget
    left = (goes_at t k.machine k.place s k.rowed k.stands e).1

    pub kept_awaits : budget < 4294967296 → Awaits text rows input s m space room
    kept_awaits h =
        record {
          stands = kept_at;
          sound = k.sound;
          few = omega (arith, left);
          fed = record { items = k.machine.items; feeds = k.same.feeds };
        }

    module _ {r : Going} {m' : State} {space' room' : List ℕ} {rs' : List Record} (steps : StepsAs text rows input s m space room rs r m' space' room' rs') where
      abbrev acted : Acted
      acted = steps.acted

      abbrev acts : Acts text rows kept_at.row.0 kept_at.at m steps.asked steps.lookup input space room acted m' space' room'
      acts = steps.acts.acts kept_at.row kept_at.at kept_at.is

      -- which takes a step,
      pub kept_less : budget - m'.steps < budget - m.steps
      kept_less = omega (arith, left, acts.leaves.steps)

      -- and keeps all
      pub kept_again : Kept text rows input space₀ room₀ rs₀ budget space' room' m' r.standing rs'
      kept_again =
          let l = acts.leaves in
          let w : AtAs text (span_in rows kept_at.row.0) kept_at.at k.machine k.place = rw kept_at.is at k.stands in
          let d = acts.went w.stood rs steps.looks k.machine k.same in
          let one : budget - m.steps ≡ suc (budget - m'.steps) = omega (arith, left, l.steps) in
          rw (steps.left, steps.goes)
          (record {
            sound = l.sound;
            space_long = l.space_long ∙ k.space_long;
            room_long = l.room_long ∙ k.room_long;
            beyond = l.beyond ∙ drop_more room room₀ _ _ l.more k.beyond;
            within = omega (arith, left, l.steps);
            rowed = acts.rowed;
            machine = d.machine;
            same = d.same;
            place = run.turn text k.machine (lines_at text (span_in rows kept_at.row.0).place.0) w.stood.reads.of;
            stands = d.stands;
            comes = sym (running-turn (budget - m.steps) (budget - m'.steps) text one _ _ _ w.is) ∙ k.comes;
          })
