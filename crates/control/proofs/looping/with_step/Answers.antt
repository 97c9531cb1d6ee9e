use mathlib.Core.Path.{refl, sym, ◌∙◌}
use borrow.Author.Tests.{not-false}
use Rattle.words.specs.Names.{name_bytes, telling_of}
use Rattle.words.proofs.Tellings.{telling_told}
use Rattle.machine.specs.bridge.Holding.{position_of}
use Rattle.turns.specs.Steps.{begun}
use Rattle.turns.specs.bridge.Turns.{after_of}
use Rattle.turns.proofs.Wholes.{turns_none}
use Rattle.control.proofs.Fors.{step_left_out, step_formed, step_stands, turns_by_one, turns_stepped}
use Rattle.variables.proofs.Agreements.{NoWhole, no_whole_text, no_whole_error}
use Rattle.control.proofs.looping.with_step.Goals as goal
use Rattle.control.proofs.looping.with_step.Goals.{in_default-via-in-Ok+in_default, in_default-via-in_default}

pub returns-then-not-is_keyword-clause-does : goal.returns-then-not-is_keyword-clause-does
returns-then-not-is_keyword-clause-does c = λ input room by u sound p e entry.
    let n = step_left_out c.args.line.now c.args.follow e (sym c.is_keyword.ensures ∙ c.if-not-is_keyword.true) in
    rw (n.0, n.1)
    (turns_by_one entry c.args.at (telling_of (name_bytes c.args.line.now c.args.name)) (telling_told _) c.args.from c.args.limit 1 (after_of c.args.here c.args.follow) c.args.found sound c.requires.1.1.0 (rw n.1 at p) c.begin_loop.ensures.does refl)

pub value-worked-requires : goal.value-worked-requires
value-worked-requires c = (rw c.token_at-first.ensures (step_formed c.requires.0 (sym c.is_keyword.ensures ∙ c.if-not-is_keyword.false)), c.requires.1.0)

pub returns-in_default-clause-does : goal.returns-in_default-clause-does
returns-in_default-clause-does c = λ input room by u sound p e entry.
    let read = step_stands c.args.line.now c.args.follow e (sym c.is_keyword.ensures ∙ not-false c.is_keyword.result c.if-not-is_keyword.false-raw) in
    let none : NoWhole c.value-worked.result =
    elim c.in_default.branch [ in_default-via-in-Ok+in_default w ↦ no_whole_text w.in_default.is (rw w.in_default.is at w.in_default.in-Text-own.keys2) | in_default-via-in_default w ↦ no_whole_error w.in_default.is ] in
    rw (c.fails.ensures, c.mismatch.ensures)
    (turns_none (begun (telling_of (name_bytes c.args.line.now c.args.name)) c.args.at.0 (position_of c.args.text.now (after_of c.args.here u)) c.args.from c.args.limit) sound c.value-worked.result none
    (c.value-worked.ensures by u (rw c.token_at-first.ensures read)))

pub begin_loop-requires-2 : goal.begin_loop-requires-2
begin_loop-requires-2 c = c.requires.1.1.1

pub returns-clause-does : goal.returns-clause-does
returns-clause-does c = λ input room by u sound p e entry.
    let read = step_stands c.args.line.now c.args.follow e (sym c.is_keyword.ensures ∙ not-false c.is_keyword.result c.if-not-is_keyword.false-raw) in
    turns_stepped entry c.args.at (telling_of (name_bytes c.args.line.now c.args.name)) (telling_told _) c.args.from c.args.limit c.args.here c.args.found sound c.requires.1.1.0 p (rw (c.in-Ok-Whole.is, rw c.in-Ok-Whole.is at c.in-Ok-Whole.field-0-is) at (c.value-worked.ensures by u (rw c.token_at-first.ensures read))) c.begin_loop-2.ensures.does
