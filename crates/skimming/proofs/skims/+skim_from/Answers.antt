-- Each answer rests on the step that was told (`step_told`), and on how much less it leaves to read (`step_lightens`).
use Rattle.std.proofs.Common.{refl, sym, ◌∙◌, ◌-◌, arith}
use Rattle.std.proofs.Math.ListN.{length-set}
use Rattle.skimming.specs.bridge.Marks.{top_of}
use Rattle.skimming.proofs.Holding.{first_small, apart_light, step_told, held_first, held_refused, held_ends, held_wants, held_has, held_closes, held_renews, held_opens, held_inner_bad, held_inner}
use Rattle.skimming.proofs.Lightness.{step_lightens}
use Rattle.skimming.proofs.skims.+skim_from.Goals as goal

pub loop-ahead-init : goal.loop-ahead-init
loop-ahead-init t c =
    (refl, rw c.first_depth-depth.ensures (first_small c.args.mark), omega arith, λ os f. rw c.first_depth-depth.ensures (held_first c.args.line.now c.args.mark c.args.ahead os f))

pub returns-in-Refused : goal.returns-in-Refused
returns-in-Refused t c =
    let s = c.args.line.now in
    let k = c.loop-ahead in
    let told = step_told s k.phase k.marks k.depth k.here c.top_of-top.ensures c.next_step.ensures c.in-Refused.is in
    λ os f. sym (held_refused s (k.invariant.3 os f) told)

pub returns-in-Ends : goal.returns-in-Ends
returns-in-Ends t c =
    let s = c.args.line.now in
    let k = c.loop-ahead in
    let told = step_told s k.phase k.marks k.depth k.here c.top_of-top.ensures c.next_step.ensures c.in-Ends.is in
    λ os f. sym (held_ends s (k.invariant.3 os f) told)

pub loop-ahead-smaller-in-Wants : goal.loop-ahead-smaller-in-Wants
loop-ahead-smaller-in-Wants t c =
    let s = c.args.line.now in
    let k = c.loop-ahead in
    let told = step_told s k.phase k.marks k.depth k.here c.top_of-top.ensures c.next_step.ensures c.in-Wants.is in
    let light = rw told at (step_lightens s k.phase (top_of k.marks k.depth) k.here) in
    omega (arith, light)

pub loop-ahead-preserved-in-Wants : goal.loop-ahead-preserved-in-Wants
loop-ahead-preserved-in-Wants t c =
    let s = c.args.line.now in
    let k = c.loop-ahead in
    let told = step_told s k.phase k.marks k.depth k.here c.top_of-top.ensures c.next_step.ensures c.in-Wants.is in
    let light = rw told at (step_lightens s k.phase (top_of k.marks k.depth) k.here) in
    (k.invariant.0, k.invariant.1, omega (arith, k.invariant.2, light), λ os f. held_wants s (k.invariant.3 os f) _ _ told)

pub loop-ahead-smaller-in-Has : goal.loop-ahead-smaller-in-Has
loop-ahead-smaller-in-Has t c =
    let s = c.args.line.now in
    let k = c.loop-ahead in
    let told = step_told s k.phase k.marks k.depth k.here c.top_of-top.ensures c.next_step.ensures c.in-Has.is in
    let light = rw told at (step_lightens s k.phase (top_of k.marks k.depth) k.here) in
    omega (arith, light)

pub loop-ahead-preserved-in-Has : goal.loop-ahead-preserved-in-Has
loop-ahead-preserved-in-Has t c =
    let s = c.args.line.now in
    let k = c.loop-ahead in
    let told = step_told s k.phase k.marks k.depth k.here c.top_of-top.ensures c.next_step.ensures c.in-Has.is in
    let light = rw told at (step_lightens s k.phase (top_of k.marks k.depth) k.here) in
    (k.invariant.0, k.invariant.1, omega (arith, k.invariant.2, light), λ os f. held_has s (k.invariant.3 os f) _ told)

pub loop-ahead-smaller-in-Closes : goal.loop-ahead-smaller-in-Closes
loop-ahead-smaller-in-Closes t c =
    let s = c.args.line.now in
    let k = c.loop-ahead in
    let told = step_told s k.phase k.marks k.depth k.here c.top_of-top.ensures c.next_step.ensures c.in-Closes.is in
    let light = rw told at (step_lightens s k.phase (top_of k.marks k.depth) k.here) in
    omega (arith, light.0)

pub loop-ahead-preserved-in-Closes : goal.loop-ahead-preserved-in-Closes
loop-ahead-preserved-in-Closes t c =
    let s = c.args.line.now in
    let k = c.loop-ahead in
    let told = step_told s k.phase k.marks k.depth k.here c.top_of-top.ensures c.next_step.ensures c.in-Closes.is in
    let light = rw told at (step_lightens s k.phase (top_of k.marks k.depth) k.here) in
    (k.invariant.0, omega (arith, k.invariant.1), omega (arith, k.invariant.2, light.0), λ os f. held_closes s (k.invariant.3 os f) _ told)

pub loop-ahead-smaller-in-Renews : goal.loop-ahead-smaller-in-Renews
loop-ahead-smaller-in-Renews t c =
    let s = c.args.line.now in
    let k = c.loop-ahead in
    let told = step_told s k.phase k.marks k.depth k.here c.top_of-top.ensures c.next_step.ensures c.in-Renews.is in
    let light = rw told at (step_lightens s k.phase (top_of k.marks k.depth) k.here) in
    omega (arith, light.0)

pub loop-ahead-preserved-in-Renews : goal.loop-ahead-preserved-in-Renews
loop-ahead-preserved-in-Renews t c =
    let s = c.args.line.now in
    let k = c.loop-ahead in
    let told = step_told s k.phase k.marks k.depth k.here c.top_of-top.ensures c.next_step.ensures c.in-Renews.is in
    let light = rw told at (step_lightens s k.phase (top_of k.marks k.depth) k.here) in
    (length-set k.marks (k.depth - 1) _ ∙ k.invariant.0, k.invariant.1, omega (arith, k.invariant.2, light.0), λ os f. held_renews s (k.invariant.3 os f) _ _ told (omega (arith, k.invariant.0, k.invariant.1)))

pub loop-ahead-smaller-then-depth-lt-ROOM : goal.loop-ahead-smaller-then-depth-lt-ROOM
loop-ahead-smaller-then-depth-lt-ROOM t c =
    let s = c.args.line.now in
    let k = c.loop-ahead in
    let told = step_told s k.phase k.marks k.depth k.here c.top_of-top.ensures c.next_step.ensures c.in-Opens.is in
    let light = rw told at (step_lightens s k.phase (top_of k.marks k.depth) k.here) in
    omega (arith, light.0)

pub loop-ahead-preserved-then-depth-lt-ROOM : goal.loop-ahead-preserved-then-depth-lt-ROOM
loop-ahead-preserved-then-depth-lt-ROOM t c =
    let s = c.args.line.now in
    let k = c.loop-ahead in
    let told = step_told s k.phase k.marks k.depth k.here c.top_of-top.ensures c.next_step.ensures c.in-Opens.is in
    let light = rw told at (step_lightens s k.phase (top_of k.marks k.depth) k.here) in
    (length-set k.marks k.depth _ ∙ k.invariant.0, omega (arith, c.if-depth-lt-ROOM.true), omega (arith, k.invariant.2, light.0), λ os f. held_opens s (k.invariant.3 os f) _ _ told (omega (arith, k.invariant.0, c.if-depth-lt-ROOM.true)))

pub skim_from-requires : goal.skim_from-requires
skim_from-requires t c =
    let s = c.args.line.now in
    let k = c.loop-ahead in
    let told = step_told s k.phase k.marks k.depth k.here c.top_of-top.ensures c.next_step.ensures c.in-Opens.is in
    let light = rw told at (step_lightens s k.phase (top_of k.marks k.depth) k.here) in
    (omega (arith, light.0, k.invariant.2, c.decreases), tt)

pub returns-in_err-here-in-Opens : goal.returns-in_err-here-in-Opens
returns-in_err-here-in-Opens t c =
    let s = c.args.line.now in
    let k = c.loop-ahead in
    let told = step_told s k.phase k.marks k.depth k.here c.top_of-top.ensures c.next_step.ensures c.in-Opens.is in
    let light = rw told at (step_lightens s k.phase (top_of k.marks k.depth) k.here) in
    λ os f. c.from_residual.ensures ∙ sym (held_inner_bad s (k.invariant.3 os f) _ _ told c.skim_from.ensures c.in_err-here-in-Opens.was)

pub loop-ahead-smaller : goal.loop-ahead-smaller
loop-ahead-smaller t c =
    let s = c.args.line.now in
    let k = c.loop-ahead in
    let told = step_told s k.phase k.marks k.depth k.here c.top_of-top.ensures c.next_step.ensures c.in-Opens.is in
    let light = rw told at (step_lightens s k.phase (top_of k.marks k.depth) k.here) in
    let g = apart_light s _ _ light.1 c.skim_from.ensures _ c.in_ok-here-in-Opens.was in
    omega (arith, light.0, g)

pub loop-ahead-preserved : goal.loop-ahead-preserved
loop-ahead-preserved t c =
    let s = c.args.line.now in
    let k = c.loop-ahead in
    let told = step_told s k.phase k.marks k.depth k.here c.top_of-top.ensures c.next_step.ensures c.in-Opens.is in
    let light = rw told at (step_lightens s k.phase (top_of k.marks k.depth) k.here) in
    let g = apart_light s _ _ light.1 c.skim_from.ensures _ c.in_ok-here-in-Opens.was in
    (k.invariant.0, k.invariant.1, omega (arith, k.invariant.2, light.0, g), λ os f. held_inner s (k.invariant.3 os f) _ _ told c.skim_from.ensures _ c.in_ok-here-in-Opens.was)
