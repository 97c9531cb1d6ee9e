-- Two lines more.
use Rattle.std.proofs.Common.{arith, ap, ◌∙◌, [], ◌∷◌, ◌++◌, append_assoc, length}
use native.Mathlib.Nat.{le_refl}
use Rattle.whole.specs.Bytes.{bytes}
use Rattle.console.specs.Lines.{line}
use Rattle.means.specs.declared.fractions.Mean.{Mean}
use Rattle.sheet.specs.Printed.{mean_line, step_lines}
use Rattle.sheet.specs.Reports.{report}
use Rattle.sheet.proofs.Reported.{Filled, lengthened}
use Rattle.sheet.proofs.reports.Report.put_steps.Goals as goal

pub returns : goal.returns
unfolding bytes step_lines
returns c = λ l e h.
    let first = line (bytes "steps") (c.args.tally.now.steps ∷ []) in
    let before : Filled c.args.self.now l (length l) = record { is = e; most = le_refl (length l) } in
    let steps = lengthened (bytes "steps") (c.args.tally.now.steps ∷ []) c.put_line.ensures before (omega arith) in
    let mean = lengthened (bytes "mean") (c.mean_of-mean.result.total ∷ c.mean_of-mean.result.count ∷ []) c.put_line-2.ensures steps (omega arith) in
    mean.is
    ∙ rw c.from.ensures at (ap (λ (mean : Mean). report ((l ++ first) ++ mean_line mean)) c.mean_of-mean.ensures)
    ∙ ap report (append_assoc l first _)
