use borrow.Enum.Refused.{opened as unsealed}
use mathlib.Core.Path.{refl}
use Rattle.statements.specs.Statements.{variable_of}
use Rattle.machine.specs.Machine.{is_loop, is_loop_of}
use Rattle.machine.proofs.Tokens.{no_name}
use Rattle.control.proofs.Led.{next_text, next_whole}
use Rattle.control.proofs.leading.next_loop.Goals as goal

pub returns-in-Text-clause-does : goal.returns-in-Text-clause-does
returns-in-Text-clause-does c = λ text input space room at sound. rw (c.in-Named.is, c.fails.ensures)
    (λ p. next_text sound _ at (variable_of c.args.line.now c.in-Named.name) _ c.in-Text.is)

pub returns-in-Whole-clause-does : goal.returns-in-Whole-clause-does
returns-in-Whole-clause-does c = λ text input space room at sound. rw (c.in-Named.is, ← c.token_at.ensures)
    (λ p.
    let v = variable_of c.args.line.now c.in-Named.name in
    next_whole at v _ c.in-Whole.is (c.next_turn.ensures.does text input space room (is_loop_of v.telling) (λ q. (refl, refl)) sound p))

pub returns-in_default-clause-does : goal.returns-in_default-clause-does
returns-in_default-clause-does c = λ text input space room at sound.
    rw (no_name c.args.target.token _ _ (unsealed c.in_default.in_default-own.keys2)) (c.next_turn-in_default.ensures.does text input space room is_loop (λ q. (refl, refl)) sound)
