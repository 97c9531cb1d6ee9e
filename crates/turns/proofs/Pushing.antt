-- Other records count: fewer of them, or one more.
use mathlib.Core.Path.{◌≡◌, refl, sym, ap, ◌∙◌}
use mathlib.Core.List.{List, ◌∷◌}
use Prim.Native.Nat.{ℕ, suc, ◌+◌, ◌≤◌, ◌<◌}
use native.Mathlib.Omega.{arith}
use native.Mathlib.Numerals.{add-one}
use borrow.Author.Tests.{le-leb, lt-leb}
use lib.Dec.{leb}
use lib.ListN.{length, set, get_or, length-set}
use Rattle.space.proofs.Bounds.{by_bound}
use Rattle.machine.specs.Machine as spec
use Rattle.machine.specs.Machine.{most_records}
use Rattle.machine.specs.bridge.Holding.{blank_record, record_of, records_in, Placed, Sound, Same, State}
use Rattle.machine.specs.declared.positions.Next.{Next}
use Rattle.machine.specs.declared.records.Record.{Record}
use Rattle.machine.proofs.Stacking.{records_length, records_past, records_push, each_push}
use Rattle.turns.specs.Steps as step
use Rattle.turns.specs.Steps.{pushed}
use Rattle.turns.specs.bridge.Turns.{pushed_turn, Comes, Turns, with_depth}
use Rattle.turns.proofs.Keeping.{leaves_unprinted}
use Rattle.turns.proofs.Leading.{Led}

module _ {m : State} {input space room : List ℕ} where
  pub sound_depth : (d : ℕ) → d ≤ m.records → Sound m input space room → Sound (with_depth m d) input space room
  sound_depth d h s =
      record {
        settled = record { numbers = s.settled.numbers; strings = s.settled.strings; all = s.settled.all; within = s.settled.within; small = s.settled.small };
        fitting = s.fitting;
        taken = s.taken;
        deep = h;
      }

  pub same_depth : {text : List ℕ} {rs rs' : List Record} {n : spec.Machine} (d : ℕ) (all : List spec.Record) → all ≡ records_in text m.tables.numbers.names rs' d
      → ((i : ℕ) → i < d → Placed text m.tables.numbers.count (get_or rs' i blank_record))
      → length rs' ≡ length rs → Same text rs m input space room n → Same text rs' (with_depth m d) input space room (spec.with_records n all)
  same_depth d all e p long s =
      record {
        variables = s.variables;
        records = e;
        record_room = s.record_room;
        slots = long ∙ s.slots;
        few = s.few;
        column = s.column;
        output = s.output;
        output_room = s.output_room;
        left = s.left;
        taken = s.taken;
        feeds = s.feeds;
        steps = s.steps;
        limit = s.limit;
        placed = p;
      }

  -- fewer of them
  pub same_fewer : {text : List ℕ} {rs : List Record} {n : spec.Machine} (d : ℕ) → d ≤ m.depth → Same text rs m input space room n
      → Same text rs (with_depth m d) input space room (spec.with_records n (records_in text m.tables.numbers.names rs d))
  same_fewer {text} {rs} d h s = same_depth d (records_in text m.tables.numbers.names rs d) refl (λ i l. s.placed i (omega arith)) refl s

-- ---- a record more

module _ {text : List ℕ} {m : State} {input space room : List ℕ} (held : Record) (nx : Next) where
  push_comes : {rs : List Record} {n : spec.Machine} (go : spec.Machine → step.Next) → Placed text m.tables.numbers.count held
      → ((o : spec.Machine) (same : spec.Machine → Type 0) → same o → Comes text nx (go o) same) → Same text rs m input space room n
      → let r = pushed_turn m held nx in
      Comes text r.next (pushed n (record_of text m.tables.numbers.names held) go) (Same text (set rs r.slot r.held) r.state input space room)
  push_comes {rs} {n} go p goes s =
      let e : length n.records ≡ m.depth = ap length s.records ∙ records_length text m.tables.numbers.names rs m.depth in
      let full : leb n.record_room (length n.records) ≡ leb m.records m.depth = rw (e, s.record_room) in
      by_bound m.records m.depth
      (λ h. rw (full, le-leb m.records m.depth h, records_past rs most_records blank_record (omega (arith, s.slots, s.few))) (refl, s))
      (λ h. rw (full, lt-leb m.records m.depth h)
      (goes (spec.with_records n (record_of text m.tables.numbers.names held ∷ n.records)) _
      (rw add-one
      (same_depth (suc m.depth) (record_of text m.tables.numbers.names held ∷ n.records)
      (ap (λ x. record_of text m.tables.numbers.names held ∷ x) s.records ∙ sym (records_push text m.tables.numbers.names rs m.depth held (omega (arith, s.slots))))
      (each_push (λ x. Placed text m.tables.numbers.count x) rs m.depth s.placed held p (omega (arith, s.slots)))
      (length-set rs m.depth held) s))))

-- where the definition comes to it with a machine that the code's holds
module _ {text : List ℕ} {m m' : State} {input space room space' : List ℕ} {told : List Record → Type 0} {does : spec.Machine → step.Next}
    (held : Record) (nx : Next) where
  pub turns_pushed : (r : spec.Record) → record_of text m'.tables.numbers.names held ≡ r → (go : spec.Machine → step.Next) → Sound m' input space' room → length space' ≡ length space
      → m'.steps ≡ m.steps → m'.printer ≡ m.printer → Placed text m'.tables.numbers.count held
      → ((o : spec.Machine) (same : spec.Machine → Type 0) → same o → Comes text nx (go o) same)
      → Led text m input space room told does m' space' room (λ o. pushed o r go)
      → Turns text m input space room told does (pushed_turn m' held nx) space' room
  turns_pushed r e go h long steps printer p goes led =
      record {
        leaves =
            by_bound m'.records m'.depth
            (λ b. rw (le-leb m'.records m'.depth b) (leaves_unprinted h long steps printer))
            (λ b. rw (lt-leb m'.records m'.depth b) (leaves_unprinted (sound_depth (m'.depth + 1) (omega arith) h) long steps printer));
        comes = λ rs t n s. let k = led rs t n s in rw (k.is, ← e) (push_comes held nx go p goes k.same);
      }
