-- What the runner answers is what is told (`tells`).
use Rattle.machine.specs.Machine.{lent_by}
use Rattle.runner.specs.Run.{run_of}
use Rattle.run_recipe.proofs.Answering.{tells}
use Rattle.run_recipe.proofs.answers.answer_of.Goals as goal

pub returns : goal.returns
returns c =
    let p = c.args in
    tells (run_of p.text.now p.input.now (lent_by p.space.now p.room.now p.records) p.budget) _ p.room.now _ _ _
    c.run_with-ran.ensures.0 c.run_with-ran.ensures.1.1 c.line_of.ensures
