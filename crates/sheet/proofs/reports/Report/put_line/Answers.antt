-- A text holds the whole line, which is put behind the others.
use Rattle.std.proofs.Common.{arith}
use Rattle.sheet.proofs.Reported.{line_length}
use Rattle.sheet.proofs.reports.Report.put_line.Goals as goal

pub returns : goal.returns
returns c = λ l e h. c.put.ensures _ (c.line.ensures c.requires) l e (omega (arith, line_length c.args.word.now c.args.numbers.now))
