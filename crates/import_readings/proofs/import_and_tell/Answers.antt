-- What is written is what the answer tells.
use Rattle.import_readings.proofs.import_and_tell.Goals as goal

pub returns : goal.returns
returns g c = c.write_answer.ensures _ c.answer_of-answer.ensures
