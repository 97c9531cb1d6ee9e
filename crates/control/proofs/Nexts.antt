-- NEXT: the loop that is found turns once more, or is dropped.
use Rattle.std.specs.Prelude.{Err, None, Ok, Option, Result, Some, ℕ}
use mathlib.Core.Path.{◌≡◌, refl, sym, ap, subst, ◌∙◌}
use mathlib.Core.Bool.{Bool, true, false, cond, false≢true}
use mathlib.Core.List.{List, ◌∷◌}
use Prim.Native.Nat.{ℕ, ◌+◌, ◌≤◌, ◌<◌}
use native.Mathlib.Omega.{arith}
use native.Mathlib.Numerals.{add-one}
use borrow.Author.Tests.{lt-ltb, ltb-true}
use lib.Dec.{ltb}
use Rattle.whole.specs.Whole.{applied}
use Rattle.whole.specs.declared.arithmetic.Operator.TheVariants.{Add}
use Rattle.whole.specs.declared.errors.Error.{Error}
use Rattle.whole.specs.declared.errors.Error.TheVariants.{NextWithoutFor}
use Rattle.words.specs.Names.{Telling}
use Rattle.variables.specs.Variables.{word_of, most_variables}
use Rattle.words.proofs.Choices.{by_test}
use Rattle.words.proofs.Tellings.{told_again}
use Rattle.variables.specs.bridge.Memory.{name_at, word_at, numbers_held}
use Rattle.variables.proofs.Names.{alike_self, name_slot}
use Rattle.variables.proofs.StoredNumbers.{number_at}
use Rattle.variables.proofs.Holding.{held_looked}
use Rattle.variables.proofs.Looking.{looked_word}
use Rattle.machine.specs.Machine as spec
use Rattle.machine.specs.Machine.{passed}
use Rattle.machine.specs.bridge.Holding.{position_of, Positioned, counts, back_of, record_of, records_in, Settled, Sound, Same, State}
use Rattle.machine.specs.bridge.Wanted.{Told}
use Rattle.machine.specs.declared.positions.Position.{Position}
use Rattle.machine.specs.declared.positions.Next.TheVariants as next
use Rattle.machine.specs.declared.records.Record.{Record}
use Rattle.machine.proofs.Stacking.{by_kind, is_loop, records_top}
use Rattle.turns.specs.Steps as step
use Rattle.turns.specs.Steps.{goes_on, store_number, turned, next_on}
use Rattle.turns.specs.bridge.Turns.{turned_to, Turns, with_depth, number_kept, number_set}
use Rattle.control.specs.bridge.Answers.{word_in, word_set, LoopsOnly}
use Rattle.turns.proofs.Keeping.{leaves_unprinted}
use Rattle.turns.proofs.Leading.{Leads, turns_fails, turns_on, turns_unwritten}
use Rattle.turns.proofs.Storing.{stored_met, leads_number}
use Rattle.turns.proofs.Pushing.{sound_depth, same_depth, same_fewer}
use Rattle.control.proofs.Fors.{sound_set}

-- what the definition does
abbrev nexts : (spec.Record → Bool) → spec.Position → spec.Machine → step.Next
nexts test after n = next_on n (spec.sought test n.records) after

-- the variable of a loop's record
abbrev variable : State → Record → Telling
variable m entry = name_at m.tables.numbers.names entry.slot

-- what the definition does with the loop that was found, and then with its variable set
abbrev turning : List ℕ → Telling → Record → List spec.Record → spec.Position → Result ℕ Error → spec.Machine → step.Next
turning text v entry under after x n = turned n v entry.limit entry.step (position_of text (back_of entry)) under after x

abbrev going : List ℕ → Telling → Record → List spec.Record → spec.Position → ℕ → spec.Machine → step.Next
going text v entry under after w n =
    cond (passed w entry.limit entry.step)
    (goes_on (spec.with_records n under) after)
    (goes_on (spec.with_records n (spec.loop v entry.limit entry.step (position_of text (back_of entry)) ∷ under))
    (position_of text (back_of entry)))

-- what a test of loops alone passes is a loop's
loop_found : (text names : List ℕ) (test : spec.Record → Bool) → LoopsOnly test → (e : Record) → test (record_of text names e) ≡ true → counts e ≡ true
loop_found text names test only e t =
    let o = only (position_of text (back_of e)) in
    by_kind e (λ f. f) (λ f g. absurd (false≢true (sym o.1 ∙ rw (f, g) at t))) (λ f g. absurd (false≢true (sym o.0 ∙ rw (f, g) at t)))

-- the number at an entry is that of the variable whose name stands there, and setting it is assigning to that
module _ {m : State} {space : List ℕ} (settled : Settled m space) (slot : ℕ) (known : slot < m.tables.numbers.count) where
  word_is : word_of (numbers_held m.tables.numbers) (name_at m.tables.numbers.names slot) ≡ word_in m.tables.numbers.words slot
  word_is =
      let name = name_at m.tables.numbers.names slot in
      sym (looked_word (held_looked m.tables.numbers m.tables.strings space settled.numbers settled.strings) name)
      ∙ ap (λ x. word_at x m.tables.numbers.words)
      (name_slot m.tables.numbers.names m.tables.numbers.count settled.numbers.few settled.numbers.apart slot name known (alike_self name))
      ∙ rw (lt-ltb slot most_variables (omega (arith, settled.numbers.few)))

  set_is : (w : ℕ) → number_set m (name_at m.tables.numbers.names slot) w ≡ record { ok = true; slot = slot; state = word_set m slot w }
  set_is w =
      ap (number_kept m) (number_at m.tables.numbers (name_at m.tables.numbers.names slot) w settled.numbers (told_again _) slot known)
      ∙ rw (lt-ltb slot m.tables.numbers.count known, lt-ltb slot most_variables (omega (arith, settled.numbers.few)))

-- a number at any entry in use leaves the machine sound
sound_word : {m : State} {input space room : List ℕ} (slot w : ℕ) → Sound m input space room → Sound (word_set m slot w) input space room
sound_word {m} {input} {space} {room} slot w s =
    by_test (ltb slot m.tables.numbers.count)
    (λ t. let k = ltb-true slot m.tables.numbers.count t in
    subst (λ x. Sound x input space room) (ap (λ x. x.state) (set_is s.settled slot k w)) (sound_set (name_at m.tables.numbers.names slot) (told_again _) w s))
    (λ t. rw t s)

module _ (text : List ℕ) {m : State} {input space room : List ℕ} (entry : Record) (test : spec.Record → Bool) (after : spec.Position)
    (only : LoopsOnly test) (sound : Sound m input space room) where
  abbrev Asked : Option ℕ → List Record → Type 0
  Asked f = Told text m.tables.numbers.names test m.depth f entry

  pub next_missing : Turns text m input space room (Asked None) (nexts test after) (turned_to m (next.Fails NextWithoutFor)) space room
  next_missing =
      turns_fails (leaves_unprinted sound refl refl refl)
      (λ rs t n s. record { machine = n; is = ap (λ x. next_on n x after) (ap (spec.sought test) s.records ∙ t); same = s })

  -- a loop was found
  module _ (slot : ℕ) (low : slot < m.depth) where
    abbrev under : List Record → List spec.Record
    under rs = records_in text m.tables.numbers.names rs slot

    module _ (rs : List Record) (t : Asked (Some slot) rs) where
      entry_loop : record_of text m.tables.numbers.names entry
          ≡ spec.loop (variable m entry) entry.limit entry.step (position_of text (back_of entry))
      entry_loop = is_loop text m.tables.numbers.names entry (loop_found text m.tables.numbers.names test only entry t.passes)

      module _ (n : spec.Machine) (s : Same text rs m input space room n) where
        known : entry.slot < m.tables.numbers.count
        known = rw t.at ((s.placed slot low).known (rw t.at at (loop_found text m.tables.numbers.names test only entry t.passes)))

        nexts_turned : {x : Result ℕ Error} → applied Add (word_in m.tables.numbers.words entry.slot) entry.step ≡ x
            → nexts test after n ≡ turning text (variable m entry) entry (under rs) after x n
        nexts_turned {x} e =
            let g = ap (spec.sought test) s.records ∙ t.is ∙ ap (λ r. spec.found r (under rs)) entry_loop in
            let w : word_of n.variables.numbers (variable m entry) ≡ word_in m.tables.numbers.words entry.slot =
            ap (λ v. word_of v.numbers (variable m entry)) s.variables ∙ word_is sound.settled entry.slot known in
            ap (λ z. next_on n z after) g
            ∙ ap (λ z. turning text (variable m entry) entry (under rs) after z n) (ap (λ z. applied Add z entry.step) w ∙ e)

        leads_set : (w : ℕ) → applied Add (word_in m.tables.numbers.words entry.slot) entry.step ≡ Ok w
            → Leads text rs (word_set m entry.slot w) input space room (nexts test after n) (going text (variable m entry) entry (under rs) after w)
        leads_set w e =
            let go = going text (variable m entry) entry (under rs) after w in
            let l = subst (λ x. Leads text rs x.state input space room (store_number n (variable m entry) w go) (stored_met x.ok go))
            (set_is sound.settled entry.slot known w) (leads_number (variable m entry) (told_again _) w sound.settled s go) in
            record { machine = l.machine; is = nexts_turned e ∙ l.is; same = l.same }

    pub next_fault : {e : Error} → applied Add (word_in m.tables.numbers.words entry.slot) entry.step ≡ Err e
        → Turns text m input space room (Asked (Some slot)) (nexts test after) (turned_to m (next.Fails e)) space room
    next_fault e =
        turns_fails (leaves_unprinted sound refl refl refl)
        (λ rs t n s. record { machine = n; is = nexts_turned rs t n s e; same = s })

    -- its variable is set
    module _ (w : ℕ) (sum : applied Add (word_in m.tables.numbers.words entry.slot) entry.step ≡ Ok w) where
      -- the loop ends,
      pub next_ends : (q : Position) → Positioned text q → after ≡ position_of text q → passed w entry.limit entry.step ≡ true
          → Turns text m input space room (Asked (Some slot)) (nexts test after)
          (turned_to (with_depth (word_set m entry.slot w) slot) (next.On q)) space room
      next_ends q p a e =
          let d : slot ≤ m.records = omega (arith, sound.deep) in
          let h : slot ≤ m.depth = omega arith in
          turns_on (leaves_unprinted (sound_depth slot d (sound_word entry.slot w sound)) refl refl refl) p
          (λ rs t n s.
          let j = leads_set rs t n s w sum in
          record {
            machine = spec.with_records j.machine (under rs);
            is = j.is ∙ rw (e, a);
            same = same_fewer slot h j.same;
          })

      -- or turns once more
      pub next_again : passed w entry.limit entry.step ≡ false
          → Turns text m input space room (Asked (Some slot)) (nexts test after)
          (turned_to (with_depth (word_set m entry.slot w) (slot + 1)) (next.On (back_of entry))) space room
      next_again e =
          let d : slot + 1 ≤ m.records = omega (arith, sound.deep) in
          turns_unwritten (leaves_unprinted (sound_depth (slot + 1) d (sound_word entry.slot w sound)) refl refl refl)
          (λ rs t n s.
          let j = leads_set rs t n s w sum in
          let loop = spec.loop (variable m entry) entry.limit entry.step (position_of text (back_of entry)) in
          let does : nexts test after n ≡ goes_on (spec.with_records j.machine (loop ∷ under rs)) (position_of text (back_of entry)) = j.is ∙ rw e in
          let top : records_in text m.tables.numbers.names rs (slot + 1) ≡ loop ∷ under rs =
          rw add-one (records_top text m.tables.numbers.names rs slot
          ∙ ap (λ e. record_of text m.tables.numbers.names e ∷ under rs) (sym t.at) ∙ ap (λ r. r ∷ under rs) (entry_loop rs t)) in
          let here : Positioned text (back_of entry) = rw t.at (s.placed slot low).back in
          rw does
          (here, (refl, same_depth (slot + 1) _ (sym top) (λ i h. let g : i < m.depth = omega arith in s.placed i g) refl j.same)))
