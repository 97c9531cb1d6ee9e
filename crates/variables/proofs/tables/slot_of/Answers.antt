-- The loop keeps that the search goes on from the i-th name.
use mathlib.Core.Path.{◌≡◌, refl, sym, ◌∙◌}
use Prim.Native.Nat.{◌*◌}
use native.Mathlib.Omega.{arith}
use lib.ListN.{drop}
use Rattle.words.specs.Names.{name_width, name_bytes, telling_of}
use Rattle.words.proofs.Tellings.{first_apart}
use Rattle.words.proofs.Runs.{front}
use Rattle.variables.proofs.Names.{alike-telling}
use Rattle.variables.proofs.Lookups.{slot_here, slot_next}
use Rattle.variables.specs.Tables.{names_in, names_from, slot_from}
use Rattle.variables.specs.Variables.{most_variables}
use Rattle.variables.proofs.tables.slot_of.Goals as goal
use Rattle.variables.proofs.tables.slot_of.Goals.{else-names-from-via-then-names-from+else-is_told, else-names-from-via-else-names-from}

pub loop-slot-init : goal.loop-slot-init
unfolding names_in
loop-slot-init c = refl

pub returns-then-is_told : goal.returns-then-is_told
returns-then-is_told c = let s = name_bytes c.args.line.now c.args.name in
    let e = drop (name_width * c.loop-slot.slot) c.args.names.now in
    sym (c.loop-slot.invariant
    ∙ slot_here c.args.names.now (telling_of s) c.loop-slot.slot c.loop-slot-test.true
    (alike-telling e (telling_of s) ∙ sym c.is_told.ensures ∙ c.if-is_told.true))

pub loop-slot-preserved : goal.loop-slot-preserved
loop-slot-preserved c = let s = name_bytes c.args.line.now c.args.name in
    let e = drop (name_width * c.loop-slot.slot) c.args.names.now in
    c.loop-slot.invariant
    ∙ slot_next c.args.names.now (telling_of s) c.loop-slot.slot c.loop-slot-test.true
    (alike-telling e (telling_of s) ∙ (elim c.else-names-from.branch [
      | else-names-from-via-then-names-from+else-is_told w ↦ sym w.is_told.ensures ∙ w.if-is_told.false
      | else-names-from-via-else-names-from w ↦ first_apart e s (λ z. w.if-names-from.false (sym (front c.args.names.now (name_width * c.loop-slot.slot)) ∙ z ∙ sym c.character-first.ensures))
    ]))

pub returns : goal.returns
unfolding names_from slot_from
returns c = let e : c.loop-slot.slot ≡ most_variables = omega arith in sym (c.loop-slot.invariant ∙ rw e)
