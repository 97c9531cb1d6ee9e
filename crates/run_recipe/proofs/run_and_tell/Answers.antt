-- What is written is what the answer tells (`tells_bytes`).
use Rattle.run_recipe.proofs.Answering.{tells_bytes}
use Rattle.run_recipe.proofs.run_and_tell.Goals as goal

pub returns : goal.returns
returns g c = c.write_answer.ensures _ (tells_bytes c.answer_of-answer.ensures)
