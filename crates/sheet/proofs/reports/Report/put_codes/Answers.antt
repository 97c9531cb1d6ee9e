-- The loop keeps that the lines so far and those to come make up the whole.
use Rattle.std.proofs.Common.{arith, rules, ◌≡◌, length}
use Rattle.sheet.proofs.Reported.{lined_next, lined_last}
use Rattle.sheet.proofs.reports.Report.put_codes.Goals as goal

pub loop-code-preserved : goal.loop-code-preserved
loop-code-preserved c =
    let long : length c.args.codes.now ≡ 256 = search rules in
    λ l e h. lined_next l _ (omega (arith, c.loop-code-test.true)) (omega (arith, long, c.loop-code-test.true)) c.put_code.ensures (c.loop-code.invariant l e h)

pub returns : goal.returns
returns c =
    let long : length c.args.codes.now ≡ 256 = search rules in
    λ l e h. lined_last l _ (omega (arith, long, c.loop-code-test.false)) (c.loop-code.invariant l e h)
