-- The answer tells its lines, or the line of its refusal (`tells_lines`, `tells_refused`).
use Rattle.import_readings.proofs.Telling.{tells_lines, tells_refused}
use Rattle.import_readings.proofs.answers.answer_of.Goals as goal

pub returns-in-Ok : goal.returns-in-Ok
returns-in-Ok c =
    tells_lines c.args.file.now c.args.out.now c.import_readings.ensures.value c.in-Ok.is c.empty.ensures c.import_readings.ensures.out_after

pub returns-in-Err : goal.returns-in-Err
returns-in-Err c =
    tells_refused c.args.file.now c.args.out.now c.import_readings.ensures.value c.in-Err.is
    (rw (← c.refusal_number.ensures) c.refused_line.ensures)
