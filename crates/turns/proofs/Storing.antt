-- A machine with a variable set is what assignment makes of the definition's.
use Rattle.std.specs.Prelude.{None, Option, Some}
use mathlib.Core.Path.{◌≡◌, refl, sym, ap, ◌∙◌}
use mathlib.Core.Bool.{Bool, true, false, cond, not}
use mathlib.Core.List.{List}
use Prim.Native.Nat.{ℕ, ◌+◌, ◌≤◌}
use lib.ListN.{length, take, drop}
use native.Mathlib.Nat.{le_refl}
use Rattle.whole.specs.declared.errors.Error.TheVariants.{OutOfMemory}
use Rattle.words.specs.Names.{Telling}
use Rattle.words.specs.declared.places.Place.{Place}
use Rattle.words.specs.declared.symbols.Scanned.{Scanned}
use Rattle.words.proofs.Choices.{by_test}
use Rattle.variables.specs.Variables.{numbers_full, strings_full}
use Rattle.variables.specs.bridge.Memory.{Tells, numbers_held, strings_held, number_stored, string_stored, space_stored, numbers_left}
use Rattle.variables.specs.declared.tables.Numbers.{Numbers}
use Rattle.variables.specs.declared.tables.Tables.{Tables}
use Rattle.variables.proofs.StoredNumbers.{NumberKept, number_stored_lem}
use Rattle.variables.proofs.StoredStrings.{StringKept, string_stored_lem}
use Rattle.machine.specs.Machine as spec
use Rattle.machine.specs.bridge.Holding.{Settled, Sound, Same, position_of, Positioned, State, state_of}
use Rattle.machine.specs.declared.records.Record.{Record}
use Rattle.turns.specs.Steps as step
use Rattle.turns.specs.Steps.{goes_on, fails, store_number, store_string, with_number, with_string}
use Rattle.turns.specs.bridge.Turns.{turn_of, storage_of, stored_as, after_of, with_tables, Turns, came_to, number_kept, number_set, string_set, stored_turn, Storage}
use Rattle.machine.specs.declared.positions.Next.TheVariants as next
use Rattle.machine.specs.declared.state.Machine.{Machine}
use Rattle.machine.specs.declared.positions.Turned.{Turned}
use Rattle.turns.proofs.Keeping.{same_tables, leaves_unprinted}
use Rattle.turns.proofs.Leading.{Leads, Led, turns_fails, turns_on}

-- what is done next, by whether there was room
abbrev pub stored_met : Bool → (spec.Machine → step.Next) → spec.Machine → step.Next
stored_met ok go = cond ok go (fails OutOfMemory)

-- ---- a number

module _ {m : State} {space : List ℕ} (name : Telling) (own : Tells name) (w : ℕ) (settled : Settled m space) where
  kept_number : NumberKept m.tables.numbers name w (number_stored m.tables.numbers name w)
  kept_number = number_stored_lem m.tables.numbers name w settled.numbers own

  pub number_settled : Settled (number_set m name w).state space
  number_settled =
      record {
        numbers = kept_number.tidy;
        strings = settled.strings;
        all = settled.all;
        within = settled.within;
        small = settled.small;
      }

  module _ {text : List ℕ} {rs : List Record} {input room : List ℕ} {n : spec.Machine} (same : Same text rs m input space room n)
      (go : spec.Machine → step.Next) where
    pub leads_number : Leads text rs (number_set m name w).state input space room (store_number n name w go)
        (stored_met (number_set m name w).ok go)
    leads_number =
        let k = kept_number in
        let t : Tables = record { numbers = (number_stored m.tables.numbers name w).numbers; strings = m.tables.strings } in
        let f : numbers_full n.variables.numbers name ≡ numbers_full (numbers_held m.tables.numbers) name = rw same.variables in
        by_test (numbers_full n.variables.numbers name)
        (λ e. let no : (number_set m name w).ok ≡ false = k.ok ∙ ap not (sym f ∙ e) in
        record {
          machine = n;
          is = rw (e, no);
          same = same_tables same t m.used refl n.variables (same.variables ∙ rw (k.refused no)) k.names k.more;
        })
        (λ e. let yes : (number_set m name w).ok ≡ true = k.ok ∙ ap not (sym f ∙ e) in
        record {
          machine = with_number n name w;
          is = rw (e, yes);
          same = same_tables same t m.used refl (with_number n name w).variables (rw (same.variables, k.held yes)) k.names k.more;
        })

-- ---- a string: its bytes stand right after the variables'

module _ {m : State} {space : List ℕ} (name : Telling) (own : Tells name) (len : ℕ) (settled : Settled m space) (fits : m.used + len ≤ length space) where
  abbrev afterwards : List ℕ
  afterwards = space_stored m.tables.strings m.used name space len

  kept_string : StringKept m.tables.strings m.used name space len (string_stored m.tables.strings m.used name len) afterwards
  kept_string = string_stored_lem m.tables.strings m.used name space len settled.strings settled.all fits own

  pub string_long : length (space_stored m.tables.strings m.used name space len) ≡ length space
  string_long = kept_string.long

  pub string_settled : Settled (string_set m name len).state (space_stored m.tables.strings m.used name space len)
  string_settled =
      let l = string_long in
      record {
        numbers = settled.numbers;
        strings = kept_string.tidy;
        all = kept_string.sum;
        within = rw l kept_string.within;
        small = rw l settled.small;
      }

  module _ {text : List ℕ} {rs : List Record} {input room : List ℕ} {n : spec.Machine} (same : Same text rs m input space room n)
      (go : spec.Machine → step.Next) where
    pub leads_string : Leads text rs (string_set m name len).state input (space_stored m.tables.strings m.used name space len) room
        (store_string n name (take len (drop m.used space)) go) (stored_met (string_set m name len).ok go)
    leads_string =
        let k = kept_string in
        let b = take len (drop m.used space) in
        let r = string_stored m.tables.strings m.used name len in
        let t : Tables = record { numbers = m.tables.numbers; strings = r.strings } in
        let f : strings_full n.variables.strings name ≡ strings_full (strings_held m.tables.strings space) name = rw same.variables in
        by_test (strings_full n.variables.strings name)
        (λ e. let no : (string_set m name len).ok ≡ false = k.ok ∙ ap not (sym f ∙ e) in
        let z = k.refused no in
        record {
          machine = n;
          is = rw (e, no);
          same = same_tables same t r.used k.long n.variables (same.variables ∙ rw (z.0, z.2)) (λ i l. refl) (le_refl _);
        })
        (λ e. let yes : (string_set m name len).ok ≡ true = k.ok ∙ ap not (sym f ∙ e) in
        record {
          machine = with_string n name b;
          is = rw (e, yes);
          same = same_tables same t r.used k.long (with_string n name b).variables (rw (same.variables, k.held yes)) (λ i l. refl) (le_refl _);
        })

-- ---- the turn: room for a new variable is tested last

module _ {m : State} {input space room space' : List ℕ} where
  -- a machine with other tables is sound where they are
  pub sound_tables : {t : Tables} {used : ℕ} → Sound m input space room → Settled (with_tables m t used) space'
      → Sound (with_tables m t used) input space' room
  sound_tables h s = record { settled = s; fitting = h.fitting; taken = h.taken; deep = h.deep }

  pub turns_stored : {text : List ℕ} {told : List Record → Type 0} {does : spec.Machine → step.Next} (here : Place) (u : Scanned)
      (s : Storage) → Sound s.state input space' room → length space' ≡ length space → s.state.steps ≡ m.steps
      → s.state.printer ≡ m.printer → Positioned text (after_of here u)
      → Led text m input space room told does s.state space' room (stored_met s.ok (λ n. goes_on n (position_of text (after_of here u))))
      → Turns text m input space room told does (stored_turn s here u) space' room
  turns_stored here u s h long steps printer p l =
      by_test s.ok
      (λ e. rw e (turns_on (leaves_unprinted h long steps printer) p (rw e at l)))
      (λ e. rw e (turns_fails (leaves_unprinted h long steps printer) (rw e at l)))

-- what the code answers is that turn
pub stored_turn_lem : {r : Turned} (m : Machine) (s : Option Machine) (here : Place) (u : Scanned) {S : Storage} {tables : Tables} → r ≡ stored_as m s here u
    → storage_of m s tables ≡ S → turn_of r tables ≡ stored_turn S here u
stored_turn_lem m None here u e k = rw e (ap (λ x. stored_turn x here u) k)
stored_turn_lem m (Some n) here u e k = rw e (ap (λ x. stored_turn x here u) k)

-- so with a number, where the table told whether there was room
module _ {r : Turned} {n : Numbers} (m : Machine) (t : Tables) (name : Telling) (w : ℕ) (here : Place) (u : Scanned) where
  pub number_full : r ≡ came_to m (next.Fails OutOfMemory) → numbers_left None n ≡ number_stored t.numbers name w
      → turn_of r (record { numbers = n; strings = t.strings }) ≡ stored_turn (number_set (state_of m t) name w) here u
  number_full e k = rw e (ap (λ s. stored_turn (number_kept (state_of m t) s) here u) k)

  pub number_turn : {slot : ℕ} → r ≡ came_to m (next.On (after_of here u)) → numbers_left (Some slot) n ≡ number_stored t.numbers name w
      → turn_of r (record { numbers = n; strings = t.strings }) ≡ stored_turn (number_set (state_of m t) name w) here u
  number_turn e k = rw e (ap (λ s. stored_turn (number_kept (state_of m t) s) here u) k)
