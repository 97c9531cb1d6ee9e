use mathlib.Core.Path.{sym, ap, ◌∙◌}
use borrow.Author.Tests.{not-true, not-false, leb-true, leb-false}
use Rattle.words.proofs.Tellings.{telling_told}
use Rattle.machine.specs.bridge.Holding.{position_of}
use Rattle.statements.specs.Statements.{variable_of}
use Rattle.turns.specs.bridge.Turns.{after_of}
use Rattle.turns.proofs.Storing.{stored_turn_lem}
use Rattle.dialogue.proofs.Asking.{fills_none, fills_number, fills_string, fills_storable, storage_tables}
use borrow.Author.Rules.{rules}
use Rattle.dialogue.proofs.inputting.fill.Goals as goal

pub returns-then-not-has_room-clause-does : goal.returns-then-not-has_room-clause-does
returns-then-not-has_room-clause-does c = λ text input room sound p. rw c.fails.ensures
    (fills_none text sound c.args.bytes.now (variable_of c.args.line.now c.args.name) _ (leb-false _ _ (sym c.has_room.ensures ∙ not-true c.has_room.result c.if-not-has_room.true-raw)))

pub with_string-requires : goal.with_string-requires
with_string-requires c = fills_storable c.args.tables.now.strings.lengths c.args.machine.used.0 c.args.space.now c.args.bytes.now c.requires.0.all c.copy_in.ensures
    (leb-true _ _ (sym c.has_room.ensures ∙ not-false c.has_room.result c.if-not-has_room.false-raw)) c.requires.1

pub returns-in-Whole-clause-does : goal.returns-in-Whole-clause-does
returns-in-Whole-clause-does c = λ text input room sound p.
    rw (c.fails-in-Whole.ensures, c.in-Whole.is, c.copy_in.ensures)
    (fills_number text sound c.args.bytes.now (leb-true _ _ (sym c.has_room.ensures ∙ not-false c.has_room.result c.if-not-has_room.false-raw))
    (variable_of c.args.line.now c.args.name).telling (position_of text (after_of c.args.here c.args.ahead)))

pub shape_of-space-in-Text : goal.shape_of-space-in-Text
shape_of-space-in-Text c = search (rules, c.space-1)

pub returns-in-Text-clause-does : goal.returns-in-Text-clause-does
returns-in-Text-clause-does c = λ text input room sound p.
    rw (stored_turn_lem c.args.machine c.with_string.result c.args.here c.args.ahead c.stored_or_full.ensures c.with_string.ensures.0, c.with_string.ensures.1, c.in-Text.is, c.copy_in.ensures)
    (fills_string text sound c.args.bytes.now (leb-true _ _ (sym c.has_room.ensures ∙ not-false c.has_room.result c.if-not-has_room.false-raw)) _ (telling_told _) c.args.here c.args.ahead p)

pub returns-in-Text-clause-kept : goal.returns-in-Text-clause-kept
returns-in-Text-clause-kept c = ap (λ t. t.numbers) (storage_tables c.args.machine c.with_string.result c.with_string.ensures.0)
