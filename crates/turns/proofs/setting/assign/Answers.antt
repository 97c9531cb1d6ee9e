use Rattle.words.proofs.Tellings.{telling_told}
use Rattle.turns.proofs.Working.{text_fits}
use Rattle.turns.proofs.Assigning.{assigned_fault, assigned_whole_text, assigned_text_whole, assigned_number, assigned_string}
use Rattle.turns.proofs.Storing.{stored_turn_lem, number_full, number_turn}
use Rattle.statements.specs.Statements.{variable_of}
use Rattle.turns.proofs.setting.assign.Goals as goal

pub with_string-requires : goal.with_string-requires
with_string-requires c = text_fits c.requires.1 (rw (c.in-Ok-Text.is, c.in-Ok-Text.field-0-is) at (c.value.ensures c.requires.0.reads.of c.requires.0.reads.next c.requires.0.reads.is))

pub returns-in-Err : goal.returns-in-Err
returns-in-Err c = λ text input room at f u sound p e.
    rw c.fails.ensures (assigned_fault text c.args.here at sound (variable_of c.args.line.now c.args.name) (rw c.in-Err.is at (c.value.ensures f u e)))

pub returns-in-Text : goal.returns-in-Text
returns-in-Text c = λ text input room at f u sound p e.
    rw (c.fails-in-Text.ensures, c.in-Text.is) (assigned_whole_text text c.args.here at sound _ (rw (c.in-Ok-Whole.is, c.in-Ok-Whole.field-0-is) at (c.value.ensures f u e)))

pub returns-in-None : goal.returns-in-None
returns-in-None c = λ text input room at f u sound p e.
    rw (number_full c.args.machine c.args.tables.now _ c.in-Ok-Whole.word c.args.here c.in-Ok-Whole.ahead c.fails-in-None.ensures c.in-None.ensures, c.in-Whole.is)
    (assigned_number text c.args.here at sound p _ (telling_told _) (rw (c.in-Ok-Whole.is, c.in-Ok-Whole.field-0-is) at (c.value.ensures f u e)))

pub returns-in-Some : goal.returns-in-Some
returns-in-Some c = λ text input room at f u sound p e.
    rw (number_turn c.args.machine c.args.tables.now _ c.in-Ok-Whole.word c.args.here c.in-Ok-Whole.ahead c.goes_on.ensures c.in-Some.ensures, c.in-Whole.is)
    (assigned_number text c.args.here at sound p _ (telling_told _) (rw (c.in-Ok-Whole.is, c.in-Ok-Whole.field-0-is) at (c.value.ensures f u e)))

pub returns-in-Whole-kind : goal.returns-in-Whole-kind
returns-in-Whole-kind c = λ text input room at f u sound p e.
    rw (c.fails-in-Whole-kind.ensures, c.in-Whole-kind.is) (assigned_text_whole text c.args.here at sound _ (rw (c.in-Ok-Text.is, c.in-Ok-Text.field-0-is) at (c.value.ensures f u e)))

pub returns-in-Text-kind : goal.returns-in-Text-kind
returns-in-Text-kind c = λ text input room at f u sound p e.
    rw (stored_turn_lem c.args.machine c.with_string.result c.args.here c.in-Ok-Text.ahead c.stored_or_full.ensures c.with_string.ensures.0, c.with_string.ensures.1, c.in-Text-kind.is)
    (assigned_string text c.args.here at sound p _ (telling_told _) (rw (c.in-Ok-Text.is, c.in-Ok-Text.field-0-is) at (c.value.ensures f u e)))
