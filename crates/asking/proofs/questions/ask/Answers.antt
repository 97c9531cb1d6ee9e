-- What is given is one name, or is refused.
use borrow.Enum.Refused.{opened as unsealed}
use Rattle.std.specs.Prelude.{Ok}
use mathlib.Core.Path.{refl, ap}
use Rattle.asking.proofs.Answering.{ask_other, ask_late, ask_more, ask_name}
use Rattle.asking.proofs.questions.ask.Goals as goal

pub returns-in_default : goal.returns-in_default
returns-in_default c = ask_other _ _ _ c.token_at-scanned.ensures (unsealed c.in_default.in_default-own.keys2)

pub returns-then-found-ne0 : goal.returns-then-found-ne0
returns-then-found-ne0 c = ask_late _ _ _ c.token_at-scanned.ensures c.in-Named.is c.if-found-ne0.true

pub returns-then-next-name : goal.returns-then-next-name
returns-then-next-name c = ask_more _ _ _ c.token_at-scanned.ensures c.in-Named.is c.if-found-ne0.false c.if-next-name.true

-- in each, n is where it is known to be the whole, and t where the token is
pub returns-in-Whole : goal.returns-in-Whole
returns-in-Whole c = ask_name _ _ _ c.token_at-scanned.ensures c.in-Named.is c.if-found-ne0.false c.if-next-name.false
    c.in-Whole.is refl (ap Ok c.number_asked.ensures)

pub returns-in-Text : goal.returns-in-Text
returns-in-Text c = ask_name _ _ _ c.token_at-scanned.ensures c.in-Named.is c.if-found-ne0.false c.if-next-name.false
    c.in-Text.is refl c.string_asked.ensures
