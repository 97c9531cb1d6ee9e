-- What is written is what the answer tells.
use Rattle.compare_recipes.proofs.compare_and_tell.Goals as goal

pub returns : goal.returns
returns g c = c.write_answer.ensures _ c.answer_of-answer.ensures
