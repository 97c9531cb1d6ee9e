-- The first byte, where there is one.
use mathlib.Core.Path.{sym, ◌∙◌}
use native.Mathlib.Omega.{arith}
use Rattle.functions.proofs.Calls.{asc_refused, asc_made}
use Rattle.functions.proofs.calling.asc.Goals as goal

pub returns-then-first_length-eq0 : goal.returns-then-first_length-eq0
returns-then-first_length-eq0 c ahead = asc_refused c.args.space.now c.args.used.0 c.args.given c.requires ahead (sym c.first_length.ensures ∙ c.if-first_length-eq0.true)

pub returns : goal.returns
returns c ahead = asc_made c.args.space.now c.args.used.0 c.args.given c.requires ahead (omega (arith, c.first_length.ensures))
