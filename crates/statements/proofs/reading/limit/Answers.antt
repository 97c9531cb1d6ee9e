-- TO and a formula must follow the first one.
use mathlib.Core.Path.{refl, sym, ◌∙◌}
use native.Mathlib.Nat.{zero-max}
use Rattle.grammar.specs.Formulas.{after, formula_of}
use Rattle.statements.specs.Parts.{is_number}
use Rattle.statements.proofs.Findings.{passed, failed}
use Rattle.statements.proofs.Readings.{bounded, not_bounded, bound_same}
use Rattle.statements.proofs.reading.limit.Goals as goal

pub returns-then-not-word_stands : goal.returns-then-not-word_stands
returns-then-not-word_stands c = λ v x e.
    let from = bounded x 0 (is_number v) e refl in
    rw (from.is, failed c.word_stands.ensures c.if-not-word_stands.true-raw)

pub returns-in_err-limit : goal.returns-in_err-limit
returns-in_err-limit c = λ v x e.
    let from = bounded x 0 (is_number v) e refl in
    let to = formula_of c.args.line.now (after c.args.line.now c.args.start.ahead) in
    let none = not_bounded to c.args.start.deepest c.args.start.typed c.bounded.ensures c.in_err-limit.was in
    rw (c.from_residual.ensures, from.is, passed c.word_stands.ensures c.if-not-word_stands.false-raw, none)

pub returns : goal.returns
returns c = λ v x e.
    let from = bounded x 0 (is_number v) e refl in
    let to = formula_of c.args.line.now (after c.args.line.now c.args.start.ahead) in
    rw (from.is, passed c.word_stands.ensures c.if-not-word_stands.false-raw)
    (c.step.ensures v from.f to (bound_same to (from.deep ∙ zero-max _) from.whole (sym c.in_ok-limit.was ∙ c.bounded.ensures)))
