-- What stands in the entry of a name is what the variables have of it.
use mathlib.Core.Path.{◌≡◌}
use Rattle.variables.specs.Variables.{bytes_of}
use Rattle.variables.specs.bridge.Memory.{bytes_at}
use Rattle.words.specs.Names.{name_bytes, telling_of}
use Rattle.variables.proofs.Looking.{found_below, looked_word, looked_bytes}
use Rattle.formulas.proofs.Making.{number_made}
use Rattle.formulas.proofs.operands.named.Goals as goal

pub number_in-requires : goal.number_in-requires
number_in-requires c = rw c.slot_of.ensures (found_below _ _)

pub copied-requires : goal.copied-requires
copied-requires c = (rw c.slot_of-in-Text.ensures (found_below _ _), (c.requires.variables, c.requires.within))

pub returns-in-Whole : goal.returns-in-Whole
returns-in-Whole c vars l = let n = telling_of (name_bytes c.args.line.now c.args.name) in
    rw c.in-Whole.is
    (number_made c.args.space.now c.args.used.0 c.args.ahead c.requires.within
    (rw (c.number_in.ensures, c.slot_of.ensures) (looked_word l n)))

pub returns-in-Text : goal.returns-in-Text
returns-in-Text c vars l = let n = telling_of (name_bytes c.args.line.now c.args.name) in
    let e : bytes_at c.slot_of-in-Text.result c.args.tables.now.strings.lengths c.args.space.now ≡ bytes_of vars.strings n =
    rw c.slot_of-in-Text.ensures
    (looked_bytes l n) in
    rw c.in-Text.is (rw e at c.copied.ensures)
