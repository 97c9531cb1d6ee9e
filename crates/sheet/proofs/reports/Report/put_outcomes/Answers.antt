-- Five lines, one after the other.
use Rattle.std.proofs.Common.{arith, ap, ◌∙◌, [], ◌∷◌}
use Rattle.whole.specs.Bytes.{bytes}
use Rattle.console.specs.Lines.{line}
use Rattle.sheet.specs.Printed.{outcome_lines}
use Rattle.sheet.specs.Reports.{report}
use Rattle.sheet.proofs.Reported.{Filled, lengthened, in_order}
use Rattle.sheet.proofs.reports.Report.put_outcomes.Goals as goal

pub returns : goal.returns
unfolding bytes outcome_lines
returns c = λ e.
    let none : Filled c.args.self.now [] 0 = record { is = e; most = omega arith } in
    let runs = lengthened (bytes "runs") (c.from.result ∷ []) c.put_line.ensures none (omega arith) in
    let ended = lengthened (bytes "ended") (c.from-2.result ∷ []) c.put_line-2.ensures runs (omega arith) in
    let stopped = lengthened (bytes "stopped") (c.from-3.result ∷ []) c.put_line-3.ensures ended (omega arith) in
    let out = lengthened (bytes "out") (c.from-4.result ∷ []) c.put_line-4.ensures stopped (omega arith) in
    let error = lengthened (bytes "error") (c.from-5.result ∷ []) c.put_line-5.ensures out (omega arith) in
    rw (← c.from.ensures, ← c.from-2.ensures, ← c.from-3.ensures, ← c.from-4.ensures, ← c.from-5.ensures)
    (error.is
    ∙ ap report
    (in_order (line (bytes "runs") (c.from.result ∷ [])) (line (bytes "ended") (c.from-2.result ∷ [])) (line (bytes "stopped") (c.from-3.result ∷ []))
    (line (bytes "out") (c.from-4.result ∷ [])) (line (bytes "error") (c.from-5.result ∷ []))))
