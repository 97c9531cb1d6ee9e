-- One that was found begins at its place.
use mathlib.Core.Path.{◌≡◌}
use Rattle.whole.proofs.Never.{never}
use Rattle.control.proofs.jumping.place_of.Goals as goal

pub returns-in-None : goal.returns-in-None
returns-in-None c = λ span e. never (cc)

pub returns-in-Some : goal.returns-in-Some
returns-in-Some c = λ span e. let same : c.in-Some.span ≡ span = cc in rw same
