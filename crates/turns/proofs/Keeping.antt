-- What the code's machine holds after a change: of its tables, or of bytes above those of the variables.
use mathlib.Core.Path.{◌≡◌, refl, sym, ap, ◌∙◌}
use mathlib.Core.Bool.{true}
use mathlib.Core.List.{List}
use Prim.Native.Nat.{ℕ, ◌≤◌, ◌<◌}
use lib.ListN.{length, take, get_or}
use native.Mathlib.Nat.{le_refl}
use native.Mathlib.Omega.{arith}
use Rattle.variables.specs.Strings.{Room}
use Rattle.variables.specs.Variables.{Variables}
use Rattle.variables.specs.bridge.Memory.{name_at, Held}
use Rattle.variables.specs.declared.tables.Tables.{Tables}
use Rattle.variables.proofs.Holding.{strings_held_kept, strings_live}
use Rattle.machine.specs.Machine as spec
use Rattle.machine.specs.Machine.{room_of, noting, with_variables}
use Rattle.machine.specs.bridge.Holding.{blank_record, counts, variables_of, Settled, Sound, Same, State}
use Rattle.turns.specs.bridge.Turns.{Turn, Leaves, with_tables}
use Rattle.machine.specs.declared.records.Record.{Record}
use Rattle.machine.proofs.Stacking.{records_kept}

-- other tables hold other variables; the names of number variables stay where they are
pub same_tables : {text : List ℕ} {rs : List Record} {m : State} {input space room : List ℕ} {n : spec.Machine}
    → Same text rs m input space room n → (t : Tables) (used : ℕ) {space' : List ℕ} → length space' ≡ length space → (vs : Variables)
    → vs ≡ variables_of (with_tables m t used) space'
    → ((i : ℕ) → i < m.tables.numbers.count → name_at t.numbers.names i ≡ name_at m.tables.numbers.names i)
    → m.tables.numbers.count ≤ t.numbers.count → Same text rs (with_tables m t used) input space' room (with_variables n vs)
same_tables {text} {rs} {m} h t used long vs e names more =
    let known : (i : ℕ) → i < m.depth → counts (get_or rs i blank_record) ≡ true → (get_or rs i blank_record).slot < m.tables.numbers.count
    = λ i l. (h.placed i l).known in
    record {
      variables = e;
      records = h.records ∙ sym (records_kept text m.tables.numbers.names t.numbers.names m.tables.numbers.count names rs m.depth known);
      record_room = h.record_room;
      slots = h.slots;
      few = h.few;
      column = h.column;
      output = h.output;
      output_room = h.output_room;
      left = h.left;
      taken = h.taken;
      feeds = h.feeds;
      steps = h.steps;
      limit = h.limit ∙ sym long;
      placed = λ i l. record { back = (h.placed i l).back; known = λ f. omega (arith, known i l f); paired = (h.placed i l).paired };
    }

-- bytes above those of the variables change none
module _ {m : State} {s s' : List ℕ} (long : length s' ≡ length s) where
  pub settled_kept : Settled m s → Settled m s'
  settled_kept h =
      record {
        numbers = h.numbers;
        strings = h.strings;
        all = h.all;
        within = omega (arith, h.within);
        small = omega (arith, h.small);
      }

  pub sound_kept : {input room : List ℕ} → Sound m input s room → Sound m input s' room
  sound_kept h = record { settled = settled_kept h.settled; fitting = h.fitting; taken = h.taken; deep = h.deep }

  pub same_kept : {text : List ℕ} {rs : List Record} {input room : List ℕ} {n : spec.Machine} → Settled m s
      → take m.used s' ≡ take m.used s → Same text rs m input s room n → Same text rs m input s' room n
  same_kept {n = n} h e same =
      same_tables same m.tables m.used long n.variables
      (same.variables
      ∙ ap (λ vs. record { numbers = (variables_of m s).numbers; strings = vs })
      (strings_held_kept m.tables.strings s s' (rw h.all (sym e))))
      (λ i l. refl) (omega arith)

-- the most unfinished strings are the definition's alone
pub same_noting : {text : List ℕ} {rs : List Record} {m : State} {input space room : List ℕ} {n : spec.Machine}
    → Same text rs m input space room n → (r : Room) → Same text rs m input space room (noting n r)
same_noting h r =
    record {
      variables = h.variables;
      records = h.records;
      record_room = h.record_room;
      slots = h.slots;
      few = h.few;
      column = h.column;
      output = h.output;
      output_room = h.output_room;
      left = h.left;
      taken = h.taken;
      feeds = h.feeds;
      steps = h.steps;
      limit = h.limit;
      placed = h.placed;
    }

-- the room that a statement begins with is what the code has
pub room_held : {text : List ℕ} {rs : List Record} {m : State} {input space room : List ℕ} {n : spec.Machine}
    → Settled m space → Same text rs m input space room n → Held (room_of n) space m.used
room_held {m = m} {space = space} h n =
    record {
      limit = n.limit;
      lives = rw n.variables (strings_live m.tables.strings space h.strings (omega (arith, h.all, h.within)) ∙ h.all);
    }

-- ---- the memory that is lent

module _ {m : State} {input space room : List ℕ} {r : Turn} {space' : List ℕ} where
  -- where nothing is printed
  pub leaves_unprinted : Sound r.state input space' room → length space' ≡ length space → r.state.steps ≡ m.steps
      → r.state.printer ≡ m.printer → Leaves m input space room r space' room
  leaves_unprinted h long steps printer =
      record {
        sound = h;
        space_long = long;
        room_long = refl;
        steps = steps;
        more = rw printer (le_refl _);
        beyond = refl;
      }
