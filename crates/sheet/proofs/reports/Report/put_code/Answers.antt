-- A number that was not met has no line.
use borrow.Author.Tests.{ne_eqb}
use Rattle.std.proofs.Common.{arith}
use Rattle.whole.specs.Bytes.{bytes}
use Rattle.sheet.proofs.reports.Report.put_code.Goals as goal

pub returns-then-count-gt0 : goal.returns-then-count-gt0
unfolding bytes
returns-then-count-gt0 c = λ l e h. rw (ne_eqb c.args.count 0 (λ z. omega arith)) (rw (← c.from.ensures) (c.put_line.ensures l e h))
