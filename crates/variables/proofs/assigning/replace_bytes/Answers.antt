use mathlib.Core.Path.{◌∙◌}
use native.Mathlib.Omega.{arith}
use Rattle.variables.proofs.Replacing.{same_long}
use Rattle.variables.proofs.assigning.replace_bytes.Goals as goal

pub returns-then-old-len : goal.returns-then-old-len
returns-then-old-len c = rw c.if-old-len.true (c.move_bytes.ensures ∙ same_long c.args.space.now c.args.start.0 c.args.len c.args.used.0 (omega (arith, c.if-old-len.true)) c.requires.1.0)
