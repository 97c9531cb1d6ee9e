use Rattle.std.specs.Prelude.{Some}
use mathlib.Core.Path.{◌≡◌, sym, ◌∙◌}
use Rattle.words.specs.Names.{name_bytes, telling_of}
use Rattle.variables.specs.Tables.{slot_in}
use Rattle.variables.proofs.Lookups.{slot_below}
use Rattle.variables.proofs.Ways.{string_old, space_old}
use Rattle.variables.proofs.tables.Strings.store.Goals as goal

pub replace-requires : goal.replace-requires
replace-requires c = (c.requires, slot_below c.args.self.now.names (telling_of (name_bytes c.args.line.now c.args.name)) c.in-Some.slot (sym c.slot_of.ensures ∙ c.in-Some.is))

pub returns-in-Some : goal.returns-in-Some
returns-in-Some c = let t = c.args.self.now in
    let e : slot_in c.args.self.now.names (telling_of (name_bytes c.args.line.now c.args.name)) ≡ Some c.in-Some.slot = sym c.slot_of.ensures ∙ c.in-Some.is in (
      c.replace.ensures.0 ∙ sym (string_old t c.args.used.0 (telling_of (name_bytes c.args.line.now c.args.name)) c.args.len c.in-Some.slot e c.if-slot-self.true),
      c.replace.ensures.1 ∙ sym (space_old t c.args.used.0 (telling_of (name_bytes c.args.line.now c.args.name)) c.args.len c.args.space.now c.in-Some.slot e c.if-slot-self.true),
    )
