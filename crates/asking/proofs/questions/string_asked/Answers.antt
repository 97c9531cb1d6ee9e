-- The entry with the name, whose bytes stand after those of the entries before it.
use mathlib.Core.Path.{sym, ◌∙◌}
use Rattle.variables.proofs.Lookups.{slot_below}
use Rattle.asking.proofs.questions.string_asked.Goals as goal

pub bounds-lengths-slot : goal.bounds-lengths-slot
bounds-lengths-slot c = slot_below _ _ _ (sym c.slot_of.ensures ∙ c.in-Some.is)
