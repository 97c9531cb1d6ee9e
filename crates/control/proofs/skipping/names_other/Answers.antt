-- By the token after NEXT.
use borrow.Enum.Refused.{opened as unsealed}
use mathlib.Core.Path.{sym}
use mathlib.Core.Bool.{false}
use Rattle.words.specs.Names.{name_bytes, telling_of}
use Rattle.machine.proofs.Tokens.{no_name}
use Rattle.control.specs.bridge.Skipping.{other_named}
use Rattle.control.proofs.skipping.names_other.Goals as goal

pub returns-in-Named : goal.returns-in-Named
returns-in-Named c = rw (c.in-Some.is, c.in-Named.is) c.is_other.ensures

pub returns-in_default-token : goal.returns-in_default-token
returns-in_default-token c = rw c.in-Some.is
    (sym (no_name c.in-Some.lead.ahead.token (λ v. other_named c.args.line.now (telling_of (name_bytes c.args.own.now c.args.name)) v) false (unsealed c.in_default-token.in_default-token-own.keys2)))
