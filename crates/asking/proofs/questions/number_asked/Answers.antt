-- The entry with the name, or none.
use mathlib.Core.Path.{sym, ap, ◌∙◌}
use native.Mathlib.Omega.{arith}
use Rattle.variables.proofs.Lookups.{slot_word, no_slot_word, slot_below}
use Rattle.asking.specs.declared.questions.Asked.TheVariants.{Whole}
use Rattle.asking.proofs.questions.number_asked.Goals as goal

pub offset_bounds-words-slot : goal.offset_bounds-words-slot
offset_bounds-words-slot c = omega (arith, slot_below _ _ _ (sym c.slot_of.ensures ∙ c.in-Some.is))

pub bounds-words-slot : goal.bounds-words-slot
bounds-words-slot c = slot_below _ _ _ (sym c.slot_of.ensures ∙ c.in-Some.is)

pub returns-in-None : goal.returns-in-None
returns-in-None c = ap Whole (sym (no_slot_word _ _ _ (sym c.slot_of.ensures ∙ c.in-None.is)))

pub returns-in-Some : goal.returns-in-Some
returns-in-Some c = ap Whole (sym (slot_word _ _ _ _ (sym c.slot_of.ensures ∙ c.in-Some.is)))
