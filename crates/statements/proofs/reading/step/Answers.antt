-- After the second formula comes STEP and a third, or the step is 1.
use Rattle.std.specs.Prelude.{Some}
use mathlib.Core.Path.{refl, ap, ◌∙◌}
use mathlib.Core.Bool.{Bool, ◌&&◌}
use Prim.Native.Nat.{ℕ}
use Rattle.grammar.specs.Trees.{Formula, Variable}
use Rattle.grammar.specs.Formulas.{after, formula_of}
use Rattle.expressions.specs.Types.{depth_of, is_whole}
use Rattle.expressions.specs.bridge.Answers.{capped_depth}
use Rattle.statements.specs.Parts.{is_number}
use Rattle.statements.specs.bridge.Answers.{known_sort}
use Rattle.statements.proofs.Findings.{passed, failed}
use Rattle.statements.proofs.Readings.{bounded, not_bounded, stepped, stepless}
use Rattle.statements.proofs.reading.step.Goals as goal

-- the depth and the type of what stands before the second formula
abbrev depth : Formula → ℕ
depth from = capped_depth (depth_of from)

abbrev typed : Variable → Formula → Bool
typed v from = is_number v && is_whole (known_sort from)

pub returns-then-not-word_stands : goal.returns-then-not-word_stands
returns-then-not-word_stands c = λ v from x e.
    let to = bounded x (depth from) (typed v from) e refl in
    rw (to.is, failed c.word_stands.ensures c.if-not-word_stands.true-raw)
    (ap Some c.formed.ensures ∙ stepless v from to.f c.args.limit.ahead to.deep to.whole)

pub returns-in_err-by : goal.returns-in_err-by
returns-in_err-by c = λ v from x e.
    let to = bounded x (depth from) (typed v from) e refl in
    let third = formula_of c.args.line.now (after c.args.line.now c.args.limit.ahead) in
    let none = not_bounded third c.args.limit.deepest c.args.limit.typed c.bounded.ensures c.in_err-by.was in
    rw (c.from_residual.ensures, to.is, passed c.word_stands.ensures c.if-not-word_stands.false-raw, none)

pub returns : goal.returns
returns c = λ v from x e.
    let to = bounded x (depth from) (typed v from) e refl in
    let third = formula_of c.args.line.now (after c.args.line.now c.args.limit.ahead) in
    let by = bounded third c.args.limit.deepest c.args.limit.typed c.bounded.ensures c.in_ok-by.was in
    rw (to.is, passed c.word_stands.ensures c.if-not-word_stands.false-raw, by.is)
    (ap Some c.formed-2.ensures ∙ stepped v from to.f c.in_ok-by.by.ahead to.deep to.whole by.f by.deep by.whole)
