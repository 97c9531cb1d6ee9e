use mathlib.Core.Path.{◌≡◌}
use Prim.Native.Nat.{◌-◌, ◌*◌}
use lib.ListN.{drop}
use Rattle.words.specs.Names.{name_width, name_bytes, telling_of}
use Rattle.variables.specs.Tables.{names_in, names_from, slot_from}
use Rattle.variables.specs.Variables.{most_variables}
use Rattle.variables.proofs.tables.slot_of.Given as goal

abbrev pub invariant-loop-slot : goal.invariant-loop-slot
invariant-loop-slot l = slot_from 0 (names_in l.names) (telling_of (name_bytes l.line l.name))
    ≡ slot_from l.slot (names_from (most_variables - l.slot) (drop (name_width * l.slot) l.names)) (telling_of (name_bytes l.line l.name))
