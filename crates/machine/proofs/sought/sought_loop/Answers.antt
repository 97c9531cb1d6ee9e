use borrow.Enum.Refused.{opened as unsealed}
use mathlib.Core.Path.{sym}
use Rattle.machine.proofs.Tokens.{no_name}
use Rattle.machine.proofs.sought.sought_loop.Goals as goal

pub returns-in-Named : goal.returns-in-Named
returns-in-Named c = rw c.in-Named.is c.loop_of.ensures

pub returns-in_default : goal.returns-in_default
returns-in_default c = sym (no_name c.args.target.token _ _ (unsealed c.in_default.in_default-own.keys2))
