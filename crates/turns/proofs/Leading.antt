-- What the definition's step comes to, one part after another, and what the code's turn then stands to it.
use mathlib.Core.Path.{◌≡◌, refl, ◌∙◌, sym, ap}
use mathlib.Core.List.{List}
use Prim.Native.Nat.{ℕ, ◌+◌, ◌-◌}
use lib.ListN.{drop}
use lib.Seq.{drop-drop}
use native.Mathlib.Omega.{arith}
use Rattle.whole.specs.declared.errors.Error.{Error}
use Rattle.words.specs.declared.places.Place.{Place}
use Rattle.machine.specs.Machine as spec
use Rattle.machine.specs.Machine.{most_records}
use Rattle.machine.specs.bridge.Holding.{lines_at, Begins, position_of, Positioned, blank_record, Same, State}
use Rattle.machine.specs.declared.positions.Position.{Position}
use Rattle.machine.specs.declared.positions.Next.{Next}
use Rattle.machine.specs.declared.positions.Next.TheVariants as next
use Rattle.turns.specs.bridge.Turns.{Turn, turned_to, Comes, Leaves, Turns}
use Rattle.machine.specs.declared.records.Record.{Record}
use Rattle.machine.proofs.Stacking.{records_past}
use Rattle.turns.specs.Steps as step
use Rattle.turns.specs.Steps.{goes_on, enters, ends, stops, fails}
-- it stands among the definitions, as contracts name it
pub use Rattle.turns.specs.bridge.Turns.{Leads}

module _ {text : List ℕ} {rs : List Record} {m : State} {input space room : List ℕ} where
  -- at once
  pub leads_self : {go : spec.Machine → step.Next} {n : spec.Machine} → Same text rs m input space room n
      → Leads text rs m input space room (go n) go
  leads_self {n = n} h = record { machine = n; is = refl; same = h }

  -- one after the other
  pub leads_on : {m' : State} {space' room' : List ℕ} {x : step.Next} {go go' : spec.Machine → step.Next}
      → Leads text rs m input space room x go
      → ((n : spec.Machine) → Same text rs m input space room n → Leads text rs m' input space' room' (go n) go')
      → Leads text rs m' input space' room' x go'
  leads_on l h = let k = h l.machine l.same in record { machine = k.machine; is = l.is ∙ k.is; same = k.same }

-- ---- a turn that writes no record

-- what the definition does comes to `go`, whatever records there are
abbrev pub Led : List ℕ → State → List ℕ → List ℕ → List ℕ → (List Record → Type 0) → (spec.Machine → step.Next) → State → List ℕ → List ℕ
    → (spec.Machine → step.Next) → Type 0
Led text m input space room told does m' space' room' go =
    (rs : List Record) → told rs → (n : spec.Machine) → Same text rs m input space room n
    → Leads text rs m' input space' room' (does n) go

module _ {text : List ℕ} {m m' : State} {input space room space' room' : List ℕ} {told : List Record → Type 0}
    {does : spec.Machine → step.Next} where
  pub turns_unwritten : {x : Next} → Leaves m input space room (turned_to m' x) space' room'
      → ((rs : List Record) → told rs → (n : spec.Machine) → Same text rs m input space room n
      → Comes text x (does n) (Same text rs m' input space' room'))
      → Turns text m input space room told does (turned_to m' x) space' room'
  turns_unwritten leaves h =
      record {
        leaves = leaves;
        comes = λ rs t n s. rw (records_past rs most_records blank_record (omega (arith, s.slots, s.few))) (h rs t n s);
      }

  -- it fails,
  pub turns_fails : {e : Error} → Leaves m input space room (turned_to m' (next.Fails e)) space' room'
      → Led text m input space room told does m' space' room' (fails e)
      → Turns text m input space room told does (turned_to m' (next.Fails e)) space' room'
  turns_fails leaves h = turns_unwritten leaves (λ rs t n s. let k = h rs t n s in rw k.is (refl, k.same))

  -- goes on after a statement,
  pub turns_on : {q : Position} → Leaves m input space room (turned_to m' (next.On q)) space' room' → Positioned text q
      → Led text m input space room told does m' space' room' (λ n. goes_on n (position_of text q))
      → Turns text m input space room told does (turned_to m' (next.On q)) space' room'
  turns_on leaves p h = turns_unwritten leaves (λ rs t n s. let k = h rs t n s in rw k.is (p, (refl, k.same)))

  -- goes on at a line's start,
  pub turns_enters : {l : Place} → Leaves m input space room (turned_to m' (next.Enter l)) space' room' → Begins text l.0
      → Led text m input space room told does m' space' room' (λ n. enters n (lines_at text l.0))
      → Turns text m input space room told does (turned_to m' (next.Enter l)) space' room'
  turns_enters leaves p h = turns_unwritten leaves (λ rs t n s. let k = h rs t n s in rw k.is (p, (refl, k.same)))

  -- or ends the run
  pub turns_ends : Leaves m input space room (turned_to m' next.Ends) space' room'
      → Led text m input space room told does m' space' room' ends
      → Turns text m input space room told does (turned_to m' next.Ends) space' room'
  turns_ends leaves h = turns_unwritten leaves (λ rs t n s. let k = h rs t n s in rw k.is k.same)

  pub turns_stops : Leaves m input space room (turned_to m' next.Stops) space' room'
      → Led text m input space room told does m' space' room' stops
      → Turns text m input space room told does (turned_to m' next.Stops) space' room'
  turns_stops leaves h = turns_unwritten leaves (λ rs t n s. let k = h rs t n s in rw k.is k.same)

-- ---- one step after another

module _ {m m' : State} {input space room space' room' : List ℕ} {x : Next} (before : Leaves m input space room (turned_to m' x) space' room') where
  pub leaves_then : {r : Turn} {space'' room'' : List ℕ} → Leaves m' input space' room' r space'' room'' → Leaves m input space room r space'' room''
  leaves_then {r} h =
      let w = m'.printer.written in
      let k = r.state.printer.written in
      let e : w + (k - w) ≡ k = omega (arith, h.more) in
      record {
        sound = h.sound;
        space_long = h.space_long ∙ before.space_long;
        room_long = h.room_long ∙ before.room_long;
        steps = h.steps ∙ before.steps;
        more = omega (arith, h.more, before.more);
        beyond = h.beyond
            ∙ rw (← e) (sym (drop-drop (k - w) w room') ∙ ap (drop (k - w)) before.beyond ∙ drop-drop (k - w) w room);
      }

  -- a turn of the machine that the first step leaves
  pub turns_then : {text : List ℕ} {told : List Record → Type 0} {does does' : spec.Machine → step.Next} {r : Turn} {space'' room'' : List ℕ}
      → Led text m input space room told does m' space' room' does'
      → Turns text m' input space' room' told does' r space'' room'' → Turns text m input space room told does r space'' room''
  turns_then led t =
      record {
        leaves = leaves_then t.leaves;
        comes = λ rs u n s. let k = led rs u n s in rw k.is (t.comes rs u k.machine k.same);
      }
