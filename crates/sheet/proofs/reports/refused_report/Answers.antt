-- One line in an empty report.
use Rattle.std.proofs.Common.{arith, []}
use Rattle.whole.specs.Bytes.{bytes}
use Rattle.sheet.proofs.reports.refused_report.Goals as goal

pub returns : goal.returns
unfolding bytes
returns c = rw (← c.from.ensures) (c.put_line.ensures [] c.empty-report.ensures (omega arith))
