-- None are a case by themselves; otherwise both are divided by what is greatest, which is not 0.
use mathlib.Core.Path.{sym, ap, ◌∙◌}
use Prim.Native.Nat.{◌<◌}
use native.Mathlib.Omega.{arith}
use Rattle.means.specs.Means.{over, mean_of}
use Rattle.means.proofs.Common.{common_some}
use Rattle.means.proofs.Lowest.{mean_over}
use Rattle.means.proofs.fractions.mean_of.Goals as goal

pub returns-then-count-eq0 : goal.returns-then-count-eq0
unfolding mean_of
returns-then-count-eq0 c = rw c.if-count-eq0.true

pub nonzero_div-result : goal.nonzero_div-result
nonzero_div-result c = rw c.greatest_common-divisor.ensures (common_some _ _ _)

pub nonzero_div-result-2 : goal.nonzero_div-result-2
nonzero_div-result-2 c = rw c.greatest_common-divisor.ensures (common_some _ _ _)

pub returns : goal.returns
returns c = let some : 0 < c.args.count = omega (arith, c.if-count-eq0.false) in
    ap (over c.args.total c.args.count) c.greatest_common-divisor.ensures ∙ sym (mean_over c.args.total c.args.count some)
