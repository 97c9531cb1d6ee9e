use Rattle.std.specs.Prelude.{Some}
use mathlib.Core.Path.{sym, ap, ◌∙◌}
use Rattle.statements.specs.Statements.{begun_by}
use Rattle.statements.specs.bridge.Answers.{begun_answer}
use Rattle.feeding.proofs.Lines.{data_passes, data_unread, data_no_choice}
use Rattle.feeding.proofs.restoring.pass.Goals as goal

pub returns-in-Done : goal.returns-in-Done
returns-in-Done c = λ text input space room tables at found entry word e sound.
    data_passes text c.args.line.now c.args.here at _ found entry input space room _ word sound c.in-Done.own
    (sym (c.in-Some.is ∙ ap Some c.in-Done.is) ∙ c.statement_led.ensures ∙ ap (λ l. begun_answer (begun_by c.args.line.now l)) e) (rw c.goes_on.ensures)

pub returns-in-None : goal.returns-in-None
returns-in-None c = λ text input space room tables at found entry word e sound.
    data_unread text c.args.line.now c.args.here at _ found entry input space room _ word
    (sym c.in-None.is ∙ c.statement_led.ensures ∙ ap (λ l. begun_answer (begun_by c.args.line.now l)) e)

pub returns-in-Choice : goal.returns-in-Choice
returns-in-Choice c = λ text input space room tables at found entry word e sound.
    data_no_choice text c.args.line.now c.args.here at _ found entry input space room _ word _
    (sym (c.in-Some.is ∙ ap Some c.in-Choice.is) ∙ c.statement_led.ensures ∙ ap (λ l. begun_answer (begun_by c.args.line.now l)) e)
