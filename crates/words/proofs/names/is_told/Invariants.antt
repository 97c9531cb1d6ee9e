use mathlib.Core.Path.{◌≡◌}
use mathlib.Core.List.{map}
use lib.ListN.{drop}
use Rattle.words.specs.Classes.{capital_of}
use Rattle.words.specs.Names.{name_bytes, telling_of, alike}
use Rattle.words.proofs.Tellings.{same_from}
use Rattle.words.proofs.names.is_told.Given as goal

abbrev pub invariant-loop-index : goal.invariant-loop-index
invariant-loop-index l = same_from l.index (drop l.from l.tellings) (map capital_of (name_bytes l.line l.name)) ≡ alike (drop l.from l.tellings) (telling_of (name_bytes l.line l.name))
