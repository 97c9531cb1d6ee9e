-- Calls of `bound_of`: what was passed. Those of `run` are in promises/specs/Calls.antt.
use Rattle.std.specs.Prelude.{◌≡◌, List, ℕ}
use Rattle.calls.specs.Lent as lent
use Rattle.bounding.specs.Bounding.{bound_of}
use Rattle.bounding.specs.contracts as bounding

-- ---- `bound_of(text)`

abbrev pub BoundAllows : lent.Allows bounding.bound_of.ended
BoundAllows lifetimes a r e = r ≡ bound_of a.0.now

abbrev pub BoundCall : Type 0
BoundCall = lent.Call bounding.bound_of.ended BoundAllows

abbrev pub BoundsAlways : Type 0
BoundsAlways = lent.Always bounding.bound_of.ended BoundAllows

abbrev pub recipe_of : BoundCall → List ℕ
recipe_of b = b.passed.0.now
