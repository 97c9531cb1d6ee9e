-- One variable of a READ is set to an item.
use Rattle.std.specs.Prelude.{Err, None, Ok, Option, Result, Some}
use mathlib.Core.Path.{◌≡◌, refl, ap, ◌∙◌}
use mathlib.Core.List.{List, []}
use Prim.Native.Nat.{ℕ, ◌+◌, ◌≤◌, ◌<◌}
use native.Mathlib.Omega.{arith}
use lib.ListN.{length, take, drop}
use Rattle.whole.specs.Digits.{number_item}
use Rattle.whole.specs.Texts.{longest_string}
use Rattle.words.specs.Places.{longest_line}
use Rattle.whole.specs.declared.errors.Error.{Error}
use Rattle.whole.specs.declared.errors.Error.TheVariants.{OutOfData, OutOfStringSpace}
use Rattle.words.specs.declared.names.Kind.{Kind}
use Rattle.words.specs.declared.names.Kind.TheVariants as kind
use Rattle.words.specs.Names.{Telling}
use Rattle.space.specs.Moves.{copied}
use Rattle.space.proofs.Frames.{copied-length, copied_bytes}
use Rattle.variables.specs.Tables.{sum_of}
use Rattle.variables.specs.bridge.Memory.{Tells, Storable, space_stored}
use Rattle.machine.specs.Machine as spec
use Rattle.machine.specs.Machine.{with_items}
use Rattle.machine.specs.bridge.Holding.{Settled, Feeds, State, state_of}
use Rattle.machine.specs.declared.state.Feed.{Feed}
use Rattle.machine.specs.declared.state.Machine.{Machine}
use Rattle.turns.specs.Steps as step
use Rattle.turns.specs.Steps.{given, next_item, store_string}
use Rattle.turns.specs.bridge.Turns.{storage_of, with_feed, number_set, string_set, Storage}
use Rattle.turns.proofs.Keeping.{settled_kept}
use Rattle.turns.proofs.Leading.{leads_on}
use Rattle.turns.proofs.Making.{leads_unmade, leads_made}
use Rattle.turns.proofs.Storing.{stored_met, number_settled, leads_number, string_settled, string_long, leads_string}
use Rattle.feeding.specs.bridge.Taking.{Took}
use Rattle.feeding.specs.bridge.Giving.{set_as, machine_of, given_met, Sets, Gives}
use Rattle.feeding.proofs.Lines.{same_feed}
use Rattle.variables.specs.declared.tables.Tables.{Tables}

-- ---- what the code answers

pub set_met : (x : Machine) (s : Option Machine) (tables : Tables) (go : spec.Machine → step.Next)
    → given_met (set_as x s) go ≡ stored_met (storage_of x s tables).ok go
set_met x (Some n) tables go = refl
set_met x None tables go = refl

-- the machine and the tables that it leaves are those of what was stored
pub set_state : (x : Machine) (s : Option Machine) {r : Result Machine (Machine × Error)} {tables : Tables} {S : Storage} → r ≡ set_as x s
    → storage_of x s tables ≡ S → state_of (machine_of r) tables ≡ S.state
set_state x (Some n) {tables = tables} e k = ap (λ y. state_of (machine_of y) tables) e ∙ ap (λ y. y.state) k
set_state x None {tables = tables} e k = ap (λ y. state_of (machine_of y) tables) e ∙ ap (λ y. y.state) k

-- ---- nothing is set

module _ {m : State} {space : List ℕ} (settled : Settled m space) where
  pub sets_none : Sets m space m space
  sets_none = record { settled = settled; printer = refl; taken = refl; steps = refl; depth = refl; records = refl; long = refl }

-- ---- a number

module _ {m : State} {space : List ℕ} (settled : Settled m space) (name : Telling) (own : Tells name) (b : List ℕ) where
  pub gives_fault : (text : List ℕ) (x : Machine) {e : Error} → number_item b ≡ Err e → Gives text m space (given kind.Whole name b) (Err (x, e)) m space
  gives_fault text x e = λ rs input room n s go. record { machine = n; is = rw e; same = s }

  module _ (w : ℕ) where
    pub sets_number : Sets m space (number_set m name w).state space
    sets_number = record { settled = number_settled name own w settled; printer = refl; taken = refl; steps = refl; depth = refl; records = refl; long = refl }

    pub gives_number : (text : List ℕ) (r : Result Machine (Machine × Error)) → ((go : spec.Machine → step.Next) → given_met r go ≡ stored_met (number_set m name w).ok go)
        → number_item b ≡ Ok w → Gives text m space (given kind.Whole name b) r (number_set m name w).state space
    gives_number text r met e = λ rs input room n q go. rw (e, met go) (leads_number name own w settled q go)

-- ---- a string

module _ {m : State} {space : List ℕ} (settled : Settled m space) (name : Telling) (own : Tells name) (b : List ℕ) where
  pub gives_full : (text : List ℕ) (x : Machine) → length space < m.used + length b
      → Gives text m space (given kind.Text name b) (Err (x, OutOfStringSpace)) m space
  gives_full text x h = λ rs input room n s go. leads_unmade settled b (λ o. store_string o name b go) s h

  module _ (fits : m.used + length b ≤ length space) where
    abbrev long : length (copied space m.used b) ≡ length space
    long = copied-length space m.used b

    abbrev kept : Settled m (copied space m.used b)
    kept = settled_kept long settled

    abbrev room_for : m.used + length b ≤ length (copied space m.used b)
    room_for = rw long fits

    abbrev stored : List ℕ
    stored = space_stored m.tables.strings m.used name (copied space m.used b) (length b)

    pub sets_string : Sets m space (string_set m name (length b)).state (space_stored m.tables.strings m.used name (copied space m.used b) (length b))
    sets_string =
        record {
          settled = string_settled name own (length b) kept room_for;
          printer = refl;
          taken = refl;
          steps = refl;
          depth = refl;
          records = refl;
          long = string_long name own (length b) kept room_for ∙ long;
        }

    pub gives_string : (text : List ℕ) (x : Machine) (s : Option Machine) (tables : Tables) → (storage_of x s tables).ok ≡ (string_set m name (length b)).ok
        → Gives text m space (given kind.Text name b) (set_as x s) (string_set m name (length b)).state
        (space_stored m.tables.strings m.used name (copied space m.used b) (length b))
    gives_string text x s tables ok = λ rs input room n q go.
        rw (set_met x s tables go, ok)
        (leads_on (leads_made settled b (λ o. store_string o name b go) q fits)
        (λ o e. rw (copied_bytes space m.used b fits) at (leads_string name own (length b) kept room_for e go)))

-- ---- an item is taken first

abbrev taking : Kind → Telling → spec.Machine → (spec.Machine → step.Next) → step.Next
taking k name n go = next_item n.items n (λ b o. given k name b o go)

module _ {text : List ℕ} {m : State} {space : List ℕ} (k : Kind) (name : Telling) where
  -- none is left
  pub gives_none : (x : Machine) → ((l : List (List ℕ)) → Feeds text m.feed l → l ≡ []) → Gives text m space (taking k name) (Err (x, OutOfData)) m space
  gives_none x h = λ rs input room n s go. record { machine = n; is = rw (h n.items s.feeds); same = s }

  -- one is, and given
  pub gives_taken : {from : _} {len : ℕ} {f : Feed} → ((l : List (List ℕ)) → Feeds text m.feed l → Took text from len f l)
      → (r : Result Machine (Machine × Error)) {m' : State} {space' : List ℕ} → Gives text (with_feed m f) space (given k name (take len (drop from.0 text))) r m' space'
      → Gives text m space (taking k name) r m' space'
  gives_taken {from} {len} {f} h r g = λ rs input room n s go.
      let t = h n.items s.feeds in
      let l = g rs input room (with_items n t.others) (same_feed f s t.feeds) go in
      record {
        machine = l.machine;
        is = ap (λ x. next_item x n (λ b o. given k name b o go)) t.all ∙ l.is;
        same = l.same;
      }

-- what was set with other items to come was set
pub sets_feed : {m m' : State} {space space' : List ℕ} (f : Feed) → Sets (with_feed m f) space m' space' → Sets m space m' space'
sets_feed f k = record { settled = k.settled; printer = k.printer; taken = k.taken; steps = k.steps; depth = k.depth; records = k.records; long = k.long }

pub settled_feed : {m : State} {space : List ℕ} (f : Feed) → Settled m space → Settled (with_feed m f) space
settled_feed f t = record { numbers = t.numbers; strings = t.strings; all = t.all; within = t.within; small = t.small }

-- a string of an item that was copied in can be stored
pub made_storable : {lengths space' : List ℕ} (space : List ℕ) {used : ℕ} (b : List ℕ) → sum_of lengths ≡ used → space' ≡ copied space used b → used + length b ≤ length space
    → length b ≤ longest_line → Storable lengths used space' (length b) × (length b ≤ longest_string)
made_storable space {used} b all e fits short =
    (record { all = all; fits = rw (e, copied-length space used b) fits }, omega arith)
