-- The longest totals have 12,246 bytes at most: there is room for all.
use Rattle.std.proofs.Common.{arith, rules, ◌≡◌, ap, ◌∙◌, ◌++◌, append_assoc, length, length-append}
use Rattle.sheet.specs.Printed.{outcome_lines, code_lines, step_lines, printed_of}
use Rattle.sheet.specs.Reports.{report}
use Rattle.sheet.proofs.Reported.{codes_most, outcomes_most}
use Rattle.sheet.proofs.reports.report_of.Goals as goal

pub returns : goal.returns
unfolding printed_of
returns c =
    let long : length c.args.tally.now.codes ≡ 256 = search rules in
    let first = outcome_lines c.args.tally.now in
    let rest = code_lines 0 c.args.tally.now.codes in
    let few = outcomes_most c.args.tally.now in
    let codes = c.put_codes.ensures first (c.put_outcomes.ensures c.empty-report.ensures) (omega (arith, few)) in
    c.put_steps.ensures (first ++ rest) codes (omega (arith, few, codes_most 0 c.args.tally.now.codes, long, length-append first rest))
    ∙ ap report (append_assoc first rest (step_lines c.args.tally.now))
