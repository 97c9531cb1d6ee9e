-- WEND: the record of its WHILE, and the run goes on there.
use Rattle.std.specs.Prelude.{None, Some}
use mathlib.Core.Path.{◌≡◌, refl, sym, ap, ◌∙◌}
use mathlib.Core.Bool.{Bool}
use mathlib.Core.List.{List, ◌∷◌}
use Prim.Native.Nat.{ℕ, ◌+◌, ◌≤◌, ◌<◌}
use native.Mathlib.Omega.{arith}
use native.Mathlib.Numerals.{add-one}
use Rattle.whole.specs.declared.errors.Error.TheVariants.{WendWithoutWhile}
use Rattle.grammar.specs.Trees as tree
use Rattle.machine.specs.Machine as spec
use Rattle.machine.specs.Repeats.{start_of, is_while_of}
use Rattle.machine.specs.bridge.Holding.{position_of, Positioned, back_of, record_of, records_in, Sound, Same, State}
use Rattle.machine.specs.bridge.Wanted.{FoundAt, Told}
use Rattle.machine.specs.declared.positions.Next.TheVariants as next
use Rattle.machine.specs.declared.records.Record.{Record}
use Rattle.machine.proofs.Stacking.{by_kind, records_top}
use Rattle.turns.specs.Steps.{goes_on, turned_back, do_statement}
use Rattle.turns.specs.bridge.Turns.{turned_to, Turns, with_depth}
use Rattle.turns.proofs.Keeping.{leaves_unprinted}
use Rattle.turns.proofs.Leading.{turns_fails, turns_unwritten}
use Rattle.turns.proofs.Pushing.{sound_depth, same_depth}

-- any record comes back to where the code's does
pub back_held : (text names : List ℕ) (e : Record) → spec.back_of (record_of text names e) ≡ position_of text (back_of e)
back_held text names e = by_kind e (λ f. rw f) (λ f g. rw (f, g)) (λ f g. rw (f, g))

-- a record that was found stays, and those above it are dropped
pub same_found : {text : List ℕ} {m : State} {input space room : List ℕ} {test : spec.Record → Bool} {slot : ℕ} {entry : Record} {rs : List Record}
    {n : spec.Machine} → FoundAt text m.tables.numbers.names test m.depth slot entry rs → Same text rs m input space room n
    → Same text rs (with_depth m (slot + 1)) input space room
    (spec.with_records n (record_of text m.tables.numbers.names entry ∷ records_in text m.tables.numbers.names rs slot))
same_found {text} {m} {slot = slot} {entry = entry} {rs = rs} t s =
    let names = m.tables.numbers.names in
    let b = t.below in
    let top : records_in text names rs (slot + 1) ≡ record_of text names entry ∷ records_in text names rs slot =
    rw add-one (records_top text names rs slot ∙ ap (λ e. record_of text names e ∷ records_in text names rs slot) (sym t.at)) in
    same_depth (slot + 1) _ (sym top) (λ i h. let g : i < m.depth = omega arith in s.placed i g) refl s

module _ {text : List ℕ} {m : State} {input space room : List ℕ} (entry : Record) (line at : ℕ) (after : spec.Position)
    (starts : start_of after.lines ≡ line) (sound : Sound m input space room) where
  pub wend_missing : Turns text m input space room (Told text m.tables.numbers.names (is_while_of line at) m.depth None entry)
      (λ n. do_statement text at tree.wend n after) (turned_to m (next.Fails WendWithoutWhile)) space room
  wend_missing =
      turns_fails (leaves_unprinted sound refl refl refl)
      (λ rs t n s.
      record {
        machine = n;
        is = ap (λ x. turned_back n (spec.sought (is_while_of x at) n.records)) starts
            ∙ ap (λ x. turned_back n x) (ap (spec.sought (is_while_of line at)) s.records ∙ t);
        same = s;
      })

  pub wend_found : (slot : ℕ) → slot < m.depth
      → Turns text m input space room (Told text m.tables.numbers.names (is_while_of line at) m.depth (Some slot) entry)
      (λ n. do_statement text at tree.wend n after) (turned_to (with_depth m (slot + 1)) (next.On (back_of entry))) space room
  wend_found slot b =
      let d : slot + 1 ≤ m.records = omega (arith, sound.deep) in
      turns_unwritten (leaves_unprinted (sound_depth (slot + 1) d sound) refl refl refl)
      (λ rs t n s.
      let r = record_of text m.tables.numbers.names entry in
      let under = records_in text m.tables.numbers.names rs slot in
      let does : do_statement text at tree.wend n after ≡ goes_on (spec.with_records n (r ∷ under)) (position_of text (back_of entry)) =
      ap (λ x. turned_back n (spec.sought (is_while_of x at) n.records)) starts
      ∙ ap (λ x. turned_back n x) (ap (spec.sought (is_while_of line at)) s.records ∙ t.is)
      ∙ ap (goes_on (spec.with_records n (r ∷ under))) (back_held text m.tables.numbers.names entry) in
      let here : Positioned text (back_of entry) = rw t.at (s.placed slot b).back in
      rw does (here, (refl, same_found t s)))
