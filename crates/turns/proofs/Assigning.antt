-- Assignment, by the formula's answer and the variable's kind.
use Rattle.std.specs.Prelude.{Ok, Err}
use mathlib.Core.Path.{refl, ◌∙◌}
use mathlib.Core.List.{List}
use Prim.Native.Nat.{ℕ}
use Rattle.whole.specs.declared.errors.Error.{Error}
use Rattle.whole.specs.declared.errors.Error.TheVariants.{TypeMismatch}
use Rattle.words.specs.declared.names.Kind.TheVariants as kind
use Rattle.words.specs.Names.{Telling}
use Rattle.words.specs.declared.places.Place.{Place}
use Rattle.words.specs.declared.symbols.Scanned.{Scanned}
use Rattle.grammar.specs.Trees.{Formula, Variable, assign}
use Rattle.variables.specs.bridge.Memory.{Tells, space_stored}
use Rattle.variables.specs.declared.values.Worked.TheVariants.{Whole, Text}
use Rattle.machine.specs.bridge.Holding.{Sound, position_of, Positioned, State}
use Rattle.machine.specs.declared.positions.Next.TheVariants as next
use Rattle.turns.specs.Steps.{goes_on, assigned, do_statement}
use Rattle.turns.specs.bridge.Turns.{turned_to, after_of, Turns, AnyRecords, Valued, number_set, string_set, stored_turn}
use Rattle.turns.proofs.Keeping.{settled_kept, sound_kept, leaves_unprinted}
use Rattle.turns.proofs.Leading.{leads_on, turns_fails}
use Rattle.turns.proofs.Working.{leads_worked}
use Rattle.turns.proofs.Storing.{number_settled, leads_number, string_settled, string_long, leads_string, sound_tables, turns_stored}

module _ (text : List ℕ) {m : State} {input space room space' : List ℕ} {f : Formula} {u : Scanned} (here : Place) (at : ℕ)
    (sound : Sound m input space room) where
  -- an error stands,
  pub assigned_fault : (v : Variable) {e : Error} → Valued m f u space (Err e) space'
      → Turns text m input space room AnyRecords (λ n. do_statement text at (assign v f) n (position_of text (after_of here u)))
      (turned_to m (next.Fails e)) space' room
  assigned_fault v w =
      turns_fails (leaves_unprinted (sound_kept w.framed.long sound) w.framed.long refl refl)
      (λ rs t n s.
      leads_worked sound.settled w s (λ x o. assigned v.kind v.telling x o (λ o. goes_on o (position_of text (after_of here u)))))

  -- and so does another type
  pub assigned_whole_text : (name : Telling) {w : ℕ} {t : Scanned} → Valued m f u space (Ok (Whole w t)) space'
      → Turns text m input space room AnyRecords
      (λ n. do_statement text at (assign (record { kind = kind.Text; telling = name }) f) n (position_of text (after_of here u)))
      (turned_to m (next.Fails TypeMismatch)) space' room
  assigned_whole_text name v =
      turns_fails (leaves_unprinted (sound_kept v.framed.long sound) v.framed.long refl refl)
      (λ rs t n s. leads_worked sound.settled v s (λ x o. assigned kind.Text name x o (λ o. goes_on o (position_of text (after_of here u)))))

  pub assigned_text_whole : (name : Telling) {len : ℕ} {t : Scanned} → Valued m f u space (Ok (Text len t)) space'
      → Turns text m input space room AnyRecords
      (λ n. do_statement text at (assign (record { kind = kind.Whole; telling = name }) f) n (position_of text (after_of here u)))
      (turned_to m (next.Fails TypeMismatch)) space' room
  assigned_text_whole name v =
      turns_fails (leaves_unprinted (sound_kept v.framed.long sound) v.framed.long refl refl)
      (λ rs t n s. leads_worked sound.settled v s (λ x o. assigned kind.Whole name x o (λ o. goes_on o (position_of text (after_of here u)))))

  -- otherwise the variable is set
  module _ (p : Positioned text (after_of here u)) (name : Telling) (own : Tells name) where
    pub assigned_number : {w : ℕ} {t : Scanned} → Valued m f u space (Ok (Whole w t)) space'
        → Turns text m input space room AnyRecords
        (λ n. do_statement text at (assign (record { kind = kind.Whole; telling = name }) f) n (position_of text (after_of here u)))
        (stored_turn (number_set m name w) here t) space' room
    assigned_number {w} v =
        let k = settled_kept v.framed.long sound.settled in
        rw v.goes
        (turns_stored here u (number_set m name w) (sound_tables sound (number_settled name own w k)) v.framed.long refl refl p
        (λ rs t n s.
        leads_on (leads_worked sound.settled v s (λ x o. assigned kind.Whole name x o (λ o. goes_on o (position_of text (after_of here u)))))
        (λ o e. leads_number name own w k e (λ o. goes_on o (position_of text (after_of here u))))))

    pub assigned_string : {len : ℕ} {t : Scanned} → Valued m f u space (Ok (Text len t)) space'
        → Turns text m input space room AnyRecords
        (λ n. do_statement text at (assign (record { kind = kind.Text; telling = name }) f) n (position_of text (after_of here u)))
        (stored_turn (string_set m name len) here t) (space_stored m.tables.strings m.used name space' len) room
    assigned_string {len} v =
        let k = settled_kept v.framed.long sound.settled in
        rw v.goes
        (turns_stored here u (string_set m name len) (sound_tables sound (string_settled name own len k v.framed.fits))
        (string_long name own len k v.framed.fits ∙ v.framed.long) refl refl p
        (λ rs t n s.
        leads_on (leads_worked sound.settled v s (λ x o. assigned kind.Text name x o (λ o. goes_on o (position_of text (after_of here u)))))
        (λ o e. leads_string name own len k v.framed.fits e (λ o. goes_on o (position_of text (after_of here u))))))
