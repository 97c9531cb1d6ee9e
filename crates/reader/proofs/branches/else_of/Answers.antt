-- The loop's invariant: from the statement reached on the walk comes to what the whole part comes to; and few IFs wait.
use Rattle.std.specs.Prelude.{None}
use mathlib.Core.Path.{refl, sym, ◌∙◌}
use native.Mathlib.Omega.{arith}
use Rattle.words.specs.Places.{place}
use Rattle.skimming.proofs.Weights.{token_weight}
use Rattle.reader.proofs.Judging.{else_starts, else_steps}
use Rattle.reader.proofs.Walks.{fewer}
use Rattle.reader.proofs.branches.else_of.Goals as goal

pub loop-read-init : goal.loop-read-init
loop-read-init c = (omega (arith, token_weight c.args.line.now (place c.args.part.0)), else_starts c.args.line.now c.args.part)

pub walk_on-requires : goal.walk_on-requires
walk_on-requires c = omega arith

pub loop-read-smaller : goal.loop-read-smaller
loop-read-smaller c =
    let w = c.loop-read.walk in
    let e = sym c.in_ok-read.was ∙ c.statement_at.ensures in
    let l = rw (c.in_ok-next.was, c.in-Statement.is) at (fewer c.args.line.now w.first w.waiting w.at.0 e c.walk_on.ensures) in
    omega (arith, l.0)

pub loop-read-preserved : goal.loop-read-preserved
loop-read-preserved c =
    let w = c.loop-read.walk in
    let e = sym c.in_ok-read.was ∙ c.statement_at.ensures in
    let l = rw (c.in_ok-next.was, c.in-Statement.is) at (fewer c.args.line.now w.first w.waiting w.at.0 e c.walk_on.ensures) in
    let walked = rw (c.in_ok-next.was, c.in-Statement.is) at (else_steps c.args.line.now w.first w.waiting w.at.0 e c.walk_on.ensures c.loop-read.invariant.1) in
    (omega (arith, l.1), walked)

pub returns-in_err-read : goal.returns-in_err-read
returns-in_err-read c =
    let w = c.loop-read.walk in
    let e = sym c.in_err-read.was ∙ c.statement_at.ensures in
    c.from_residual.ensures ∙ else_steps c.args.line.now w.first w.waiting w.at.0 {o = None} e refl c.loop-read.invariant.1

pub returns-in_err-next : goal.returns-in_err-next
returns-in_err-next c =
    let w = c.loop-read.walk in
    let e = sym c.in_ok-read.was ∙ c.statement_at.ensures in
    c.from_residual-in_err-next.ensures
    ∙ (rw c.in_err-next.was at (else_steps c.args.line.now w.first w.waiting w.at.0 e c.walk_on.ensures c.loop-read.invariant.1))

pub returns-in-Else : goal.returns-in-Else
returns-in-Else c =
    let w = c.loop-read.walk in
    let e = sym c.in_ok-read.was ∙ c.statement_at.ensures in
    rw (c.in_ok-next.was, c.in-Else.is) at (else_steps c.args.line.now w.first w.waiting w.at.0 e c.walk_on.ensures c.loop-read.invariant.1)

pub returns-in-End : goal.returns-in-End
returns-in-End c =
    let w = c.loop-read.walk in
    let e = sym c.in_ok-read.was ∙ c.statement_at.ensures in
    rw (c.in_ok-next.was, c.in-End.is) at (else_steps c.args.line.now w.first w.waiting w.at.0 e c.walk_on.ensures c.loop-read.invariant.1)
