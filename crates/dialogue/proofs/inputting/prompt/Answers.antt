use borrow.Enum.Refused.{opened as unsealed}
use mathlib.Core.Path.{sym, ◌∙◌}
use Rattle.statements.specs.Statements.{variable_of}
use Rattle.machine.specs.bridge.Holding.{position_of}
use Rattle.turns.specs.bridge.Turns.{after_of}
use Rattle.dialogue.proofs.Asking.{asks_full, asks_on, target_is, not_target, laid_printed}
use Rattle.dialogue.proofs.inputting.prompt.Goals as goal

pub returns-in_default-clause-does : goal.returns-in_default-clause-does
returns-in_default-clause-does c = λ program at v u sound p e. rw (c.fails.ensures, c.write.ensures.1)
    (asks_full program sound at c.args.text.now v (position_of program (after_of c.args.here u)) (sym c.write.ensures.0 ∙ c.in_default.is))

pub take_in-requires : goal.take_in-requires
take_in-requires c = laid_printed (c.with_printer-m.ensures c.args.tables.now) c.requires.0

pub shape_of-room-in-Named : goal.shape_of-room-in-Named
shape_of-room-in-Named c = c.write.auto.room

pub returns-in-Named-clause-does : goal.returns-in-Named-clause-does
returns-in-Named-clause-does c = λ program at v u sound p e.
    let k = target_is c.args.line.now c.args.text.now c.args.target c.in-Named.is e in
    rw (k.0, k.1, ← c.token_at.ensures)
    (asks_on program sound at c.args.text.now (variable_of c.args.line.now c.in-Named.name) (position_of program (after_of c.args.here c.token_at.result))
    (sym c.write.ensures.0 ∙ c.in-Some.is) (c.with_printer-m.ensures c.args.tables.now) c.write.ensures.1
    (λ s. c.take_in.ensures.does program c.write.new.room s (rw (k.1, ← c.token_at.ensures) at p)))

pub returns-in_default-token-clause-does : goal.returns-in_default-token-clause-does
returns-in_default-token-clause-does c = λ program at v u sound p e. absurd (not_target c.args.line.now c.args.text.now c.args.target (unsealed c.in_default-token.in_default-token-own.keys2) e)
