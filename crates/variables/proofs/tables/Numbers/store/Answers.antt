use mathlib.Core.Path.{sym, ◌∙◌}
use native.Mathlib.Omega.{arith}
use Rattle.words.specs.Names.{name_bytes, telling_of}
use Rattle.variables.proofs.Lookups.{slot_below}
use Rattle.variables.proofs.tables.Numbers.store.Goals as goal

pub offset_bounds-self-slot : goal.offset_bounds-self-slot
offset_bounds-self-slot c = let h = slot_below c.args.self.now.names (telling_of (name_bytes c.args.line.now c.args.name)) c.in-Some.slot (sym c.slot_of.ensures ∙ c.in-Some.is) in omega arith

pub bounds-self-slot : goal.bounds-self-slot
bounds-self-slot c = slot_below c.args.self.now.names (telling_of (name_bytes c.args.line.now c.args.name)) c.in-Some.slot (sym c.slot_of.ensures ∙ c.in-Some.is)
