-- What the loop keeps holds at the start, a turn keeps it, and at the end it is what the run comes to.
use Rattle.std.proofs.Common.{◌<◌, ◌^◌, sym, ◌∙◌, arith}
use Rattle.runner.proofs.Walking.{keeps_begun, keeps_awaits, keeps_on, keeps_nearer, keeps_told, keeps_over}
use Rattle.runner.proofs.lending.run_loaded.Goals as goal

pub loop-tables-init : goal.loop-tables-init
loop-tables-init c = keeps_begun _ _ _ _ _ _ _ _ c.requires c.begins-going.result c.begins-going.ensures

pub step-going-requires : goal.step-going-requires
step-going-requires c =
    let small : c.args.budget < 2 ^ 32 = omega arith in
    keeps_awaits _ _ _ _ _ _ _ _ _ _ _ _ c.loop-tables.invariant (sym c.goes.ensures ∙ c.loop-tables-test.true) small

pub loop-tables-preserved : goal.loop-tables-preserved
loop-tables-preserved c =
    keeps_on _ _ _ _ _ _ _ _ _ _ _ _ c.loop-tables.invariant (sym c.goes.ensures ∙ c.loop-tables-test.true) _ _ _ _ _ c.step-going.ensures

pub loop-tables-smaller : goal.loop-tables-smaller
loop-tables-smaller c =
    keeps_nearer _ _ _ _ _ _ _ _ _ _ _ _ c.loop-tables.invariant (sym c.goes.ensures ∙ c.loop-tables-test.true) _ _ _ _ _ c.step-going.ensures

pub told-requires : goal.told-requires
told-requires c = keeps_told _ _ _ _ _ _ _ _ _ _ _ _ c.loop-tables.invariant

pub returns : goal.returns
returns c =
    keeps_over _ _ _ _ _ _ _ _ _ _ _ _ c.loop-tables.invariant c.loop-tables.auto.stack (sym c.goes.ensures ∙ c.loop-tables-test.false) _ _ _ c.told.ensures c.wipe.ensures
