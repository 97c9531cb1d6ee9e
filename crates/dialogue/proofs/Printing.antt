-- What is printed, and what the definition then does.
use Rattle.std.specs.Prelude.{Option, Some, None}
use Rattle.std.specs.Option.{unwrap_or}
use mathlib.Core.Path.{◌≡◌, refl, sym, ap, ◌∙◌}
use mathlib.Core.List.{List}
use Prim.Native.Nat.{ℕ, ◌+◌, ◌-◌, ◌≤◌}
use native.Mathlib.Nat.{le_refl}
use native.Mathlib.Omega.{arith}
use lib.ListN.{length, take, drop, replicate}
use lib.Seq.{take-append_seam, drop-drop}
use Rattle.whole.specs.Texts.{held, longest_string}
use Rattle.whole.specs.declared.texts.Text.{Text}
use Rattle.whole.specs.declared.errors.Error.TheVariants.{OutputFull}
use Rattle.space.specs.Moves.{copied}
use Rattle.space.proofs.Frames.{copied_past}
use Rattle.machine.specs.Machine as spec
use Rattle.machine.specs.Machine.{with_output}
use Rattle.machine.specs.bridge.Holding.{printed_as, Settled, Fitting, Sound, Same, State}
use Rattle.machine.specs.declared.state.Printer.{Printer}
use Rattle.machine.specs.declared.positions.Next.{Next}
use Rattle.machine.specs.declared.records.Record.{Record}
use Rattle.machine.proofs.Writing.{not_printed, room_length, write-full, write-printed, by_printed}
use Rattle.turns.specs.Steps as step
use Rattle.turns.specs.Steps.{fails, written}
use Rattle.turns.specs.bridge.Turns.{turned_to, Leads, Leaves, with_printer}
use Rattle.turns.proofs.Keeping.{settled_kept}

-- a text's bytes are the first ones of its buffer
pub held_front : {t : Text} (l : List ℕ) → t ≡ held l → take t.len t.bytes ≡ l
unfolding held
held_front l e = rw e (take-append_seam l (replicate (longest_string - length l) 0))

-- what is done next, by whether there was room
abbrev pub printed_met : Option Printer → (spec.Machine → step.Next) → spec.Machine → step.Next
printed_met (Some p) go = go
printed_met None go = fails OutputFull

module _ {text : List ℕ} {rs : List Record} {m : State} {input space room : List ℕ} {n : spec.Machine}
    (same : Same text rs m input space room n) where
  -- another printer holds other output
  pub same_printer : (p : Printer) {room' : List ℕ} → length room' ≡ length room
      → Same text rs (with_printer m p) input space room' (with_output n (take p.written room') p.column)
  same_printer p long =
      record {
        variables = same.variables;
        records = same.records;
        record_room = same.record_room;
        slots = same.slots;
        few = same.few;
        column = refl;
        output = refl;
        output_room = same.output_room ∙ sym long;
        left = same.left;
        taken = same.taken;
        feeds = same.feeds;
        steps = same.steps;
        limit = same.limit;
        placed = same.placed;
      }

  pub leads_written : Fitting m.printer room → (bytes : List ℕ) (go : spec.Machine → step.Next)
      → Leads text rs (with_printer m (unwrap_or (printed_as m.printer (length room) bytes) m.printer)) input space (copied room m.printer.written bytes)
      (written n bytes go) (printed_met (printed_as m.printer (length room) bytes) go)
  leads_written fit bytes go =
      let room' = copied room m.printer.written bytes in
      by_printed
      (λ o. Leads text rs (with_printer m (unwrap_or o m.printer)) input space room' (written n bytes go) (printed_met o go))
      (printed_as m.printer (length room) bytes)
      (λ q e. record {
        machine = with_output n (take q.written room') q.column;
        is = rw (write-printed fit bytes n same.column same.output same.output_room e);
        same = same_printer q (room_length fit bytes);
      })
      (λ e. record {
        machine = n;
        is = rw (write-full fit bytes n same.column same.output same.output_room e);
        same = rw (copied_past room m.printer.written bytes (not_printed m.printer room bytes e)) same;
      })

-- ---- the memory that is lent, where something was printed and nothing else changed

pub record Printed (m : State) (space room : List ℕ) (m' : State) (space' room' : List ℕ) : Type 0 where
  pub settled : Settled m' space'
  pub fitting : Fitting m'.printer room'
  pub taken : m'.taken ≡ m.taken
  pub depth : m'.depth ≡ m.depth
  pub records : m'.records ≡ m.records
  pub steps : m'.steps ≡ m.steps
  pub space_long : length space' ≡ length space
  pub room_long : length room' ≡ length room
  pub more : m.printer.written ≤ m'.printer.written
  pub beyond : drop m'.printer.written room' ≡ drop m'.printer.written room

-- what is alike from a place on is alike from a later one on
later_kept : (a b : List ℕ) (k l : ℕ) → k ≤ l → drop k a ≡ drop k b → drop l a ≡ drop l b
later_kept a b k l h e =
    let n : k + (l - k) ≡ l = omega arith in
    rw (← n) (sym (drop-drop (l - k) k a) ∙ ap (drop (l - k)) e ∙ drop-drop (l - k) k b)

module _ {m : State} {space room : List ℕ} where
  pub printed_none : Settled m space → Fitting m.printer room → Printed m space room m space room
  printed_none s f =
      record {
        settled = s;
        fitting = f;
        taken = refl;
        depth = refl;
        records = refl;
        steps = refl;
        space_long = refl;
        room_long = refl;
        more = le_refl _;
        beyond = refl;
      }

  module _ {m' : State} {space' room' : List ℕ} (h : Printed m space room m' space' room') where
    -- more is printed
    pub printed_more : (p : Printer) {space'' room'' : List ℕ} → length space'' ≡ length space' → length room'' ≡ length room'
        → Fitting p room'' → m'.printer.written ≤ p.written → drop p.written room'' ≡ drop p.written room'
        → Printed m space room (with_printer m' p) space'' room''
    printed_more p {space''} s r f l b =
        let t : Settled m' space'' = settled_kept s h.settled in
        record {
          settled = record { numbers = t.numbers; strings = t.strings; all = t.all; within = t.within; small = t.small };
          fitting = f;
          taken = h.taken;
          depth = h.depth;
          records = h.records;
          steps = h.steps;
          space_long = s ∙ h.space_long;
          room_long = r ∙ h.room_long;
          more = omega (arith, h.more, l);
          beyond = b ∙ later_kept _ _ m'.printer.written p.written l h.beyond;
        }

    pub printed_leaves : {input : List ℕ} {next : Next} → Sound m input space room → Leaves m input space room (turned_to m' next) space' room'
    printed_leaves s =
        record {
          sound = record {
            settled = h.settled;
            fitting = h.fitting;
            taken = rw h.taken s.taken;
            deep = rw (h.depth, h.records) s.deep;
          };
          space_long = h.space_long;
          room_long = h.room_long;
          steps = h.steps;
          more = h.more;
          beyond = h.beyond;
        }
