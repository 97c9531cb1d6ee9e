-- What is refused has its line; the index of the text tells what the text does (`told_text`).
use Rattle.std.proofs.Common.{sym, ap, ◌∙◌, length, arith}
use Rattle.space.specs.Moves.{overlaid}
use Rattle.callers_of.specs.Answers.{answer_to}
use Rattle.callers_of.proofs.Telling.{told_text, refused_text}
use Rattle.callers_of.proofs.answers.answer_of.Goals as goal

pub returns-in-Err : goal.returns-in-Err
returns-in-Err c =
    let e = refused_text c.args.text.now c.args.number (sym c.index_of.ensures.value ∙ c.in-Err.is) c.refusal_number.ensures c.refused_line-line.ensures in
    let w = c.put_line.ensures.by_index (answer_to c.args.text.now c.args.number) e in
    record { upper_bound = (omega (arith, c.put_line.ensures.upper_bound), w.0 ∙ (omega arith)); out_after = w.1 }

pub returns-in-Ok : goal.returns-in-Ok
returns-in-Ok c =
    let e = told_text c.args.text.now _ c.args.number (sym c.index_of.ensures.value ∙ c.in-Ok.is) c.index_of.ensures.index_after in
    let k = c.told.ensures in
    record { upper_bound = (k.upper_bound.0, k.upper_bound.1 ∙ ap length e); out_after = k.out_after ∙ ap (overlaid c.args.out.now 0) e }
