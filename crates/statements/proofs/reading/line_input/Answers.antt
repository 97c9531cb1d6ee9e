-- INPUT must follow, and then a text with a semicolon, or at once the variable.
use mathlib.Core.List.{[]}
use Rattle.statements.proofs.Findings.{passed, failed}
use Rattle.statements.proofs.Readings.{input_bare, input_stops, input_text}
use Rattle.statements.proofs.reading.line_input.Goals as goal

pub returns-then-not-word_stands : goal.returns-then-not-word_stands
returns-then-not-word_stands c = rw (failed c.word_stands.ensures c.if-not-word_stands.true-raw)

pub returns-then-not-text_stands : goal.returns-then-not-text_stands
returns-then-not-text_stands c = rw (passed c.word_stands.ensures c.if-not-word_stands.false-raw, ← c.token_after-asked.ensures)
    (input_bare c.args.line.now c.token_after-asked.result (failed c.text_stands.ensures c.if-not-text_stands.true-raw) (c.target.ensures []))

pub returns-then-not-sign_stands : goal.returns-then-not-sign_stands
returns-then-not-sign_stands c = rw (passed c.word_stands.ensures c.if-not-word_stands.false-raw, ← c.token_after-asked.ensures)
    (input_stops c.args.line.now c.token_after-asked.result (passed c.text_stands.ensures c.if-not-text_stands.false-raw)
    (rw (← c.token_after-semicolon.ensures) (failed c.sign_stands.ensures c.if-not-sign_stands.true-raw)))

pub returns : goal.returns
returns c = rw (passed c.word_stands.ensures c.if-not-word_stands.false-raw, ← c.token_after-asked.ensures)
    (input_text c.args.line.now c.token_after-asked.result (passed c.text_stands.ensures c.if-not-text_stands.false-raw)
    (rw (← c.token_after-semicolon.ensures) (passed c.sign_stands.ensures c.if-not-sign_stands.false-raw))
    (λ text. rw (← c.token_after-semicolon.ensures, ← c.token_after.ensures) (c.target-2.ensures text)))
