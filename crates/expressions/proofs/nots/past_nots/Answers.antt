-- What is left of the chain from a turn on is what it comes to. Each turn goes on with less left to read.
use borrow.Enum.Refused.{opened as unsealed}
use mathlib.Core.Path.{refl, sym, ◌∙◌}
use native.Mathlib.Omega.{arith}
use Rattle.skimming.proofs.Weights.{after_lighter}
use Rattle.expressions.specs.bridge.Nots.{nots_of}
use Rattle.expressions.proofs.Chains.{no_not, nots_goes, nots_ends}
use Rattle.expressions.proofs.nots.past_nots.Goals as goal

pub loop-here-init : goal.loop-here-init
unfolding nots_of
loop-here-init c = refl

pub loop-here-smaller : goal.loop-here-smaller
loop-here-smaller c = rw c.token_at-here.ensures (omega (arith, after_lighter c.args.line.now c.loop-here.here (rw c.in-Not.is)))

pub loop-here-preserved : goal.loop-here-preserved
loop-here-preserved c = rw c.token_at-here.ensures (sym (nots_goes c.args.line.now c.loop-here.odd c.loop-here.here c.in-Not.is) ∙ c.loop-here.invariant)

pub returns : goal.returns
returns c = sym (nots_ends c.args.line.now c.loop-here.odd c.loop-here.here (no_not c.loop-here.here.token (unsealed c.in_default.in_default-own.keys2))) ∙ c.loop-here.invariant
