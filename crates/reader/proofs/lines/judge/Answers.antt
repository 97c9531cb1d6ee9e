-- The loop's invariant: what was tallied, joined to the rest of the line, comes to what the whole line comes to; and few IFs wait.
use Rattle.std.specs.Prelude.{Some, None}
use mathlib.Core.Path.{◌≡◌, refl, sym, ◌∙◌, ap}
use native.Mathlib.Omega.{arith}
use Rattle.words.specs.Places.{place}
use Rattle.skimming.proofs.Weights.{token_weight}
use Rattle.std.proofs.lemmas.Result.{err_from_is_err_and}
use Rattle.reader.specs.bridge.Walking.{with_own}
use Rattle.reader.specs.declared.lines.LineFault.TheVariants.{Unreadable}
use Rattle.reader.proofs.Judging.{verdict_starts, verdict_steps, verdict_ends}
use Rattle.reader.proofs.Walks.{fewer}
use Rattle.reader.proofs.lines.judge.Goals as goal

pub loop-read-init : goal.loop-read-init
loop-read-init c = (omega (arith, token_weight c.args.line.now (place 0)), verdict_starts c.args.line.now)

pub walk_on-requires : goal.walk_on-requires
walk_on-requires c = omega arith

pub loop-read-smaller : goal.loop-read-smaller
loop-read-smaller c =
    let w = c.loop-read.walk in
    let read : c.statement_at.result ≡ Some c.in_ok-read.read = grind arith in
    let on : c.walk_on.result ≡ Some c.in_ok-next.field-0 = grind arith in
    let l = rw (on, c.in-Statement.is) at (fewer c.args.line.now w.first w.waiting w.at.0 (sym read ∙ c.statement_at.ensures) c.walk_on.ensures) in
    omega (arith, l.0)

pub loop-read-preserved : goal.loop-read-preserved
loop-read-preserved c =
    let w = c.loop-read.walk in
    let read : c.statement_at.result ≡ Some c.in_ok-read.read = grind arith in
    let on : c.walk_on.result ≡ Some c.in_ok-next.field-0 = grind arith in
    let l = rw (on, c.in-Statement.is) at (fewer c.args.line.now w.first w.waiting w.at.0 (sym read ∙ c.statement_at.ensures) c.walk_on.ensures) in
    let tallied = c.with-tally.ensures ∙ ap (with_own c.loop-read.tally) c.own.ensures in
    let walked = rw (on, c.in-Statement.is) at
    (verdict_steps c.args.line.now w.first w.waiting w.at.0 c.loop-read.tally (sym read ∙ c.statement_at.ensures) tallied c.walk_on.ensures c.loop-read.invariant.1) in
    (omega (arith, l.1), walked)

pub returns-in_err-read : goal.returns-in_err-read
returns-in_err-read c =
    let w = c.loop-read.walk in
    let none : c.statement_at.result ≡ None = grind arith in
    let walked = verdict_steps c.args.line.now w.first w.waiting w.at.0 c.loop-read.tally {o = None} (sym none ∙ c.statement_at.ensures) refl refl c.loop-read.invariant.1 in
    let why : c.in_err-read.field-0.0 ≡ Unreadable = grind arith in
    let p = err_from_is_err_and c.from_residual.result c.from_residual.ensures.1 in
    rw (p.1, p.2, why) walked

pub returns-in_err-next : goal.returns-in_err-next
returns-in_err-next c =
    let w = c.loop-read.walk in
    let read : c.statement_at.result ≡ Some c.in_ok-read.read = grind arith in
    let none : c.walk_on.result ≡ None = grind arith in
    let tallied = c.with-tally.ensures ∙ ap (with_own c.loop-read.tally) c.own.ensures in
    let walked = rw none at
    (verdict_steps c.args.line.now w.first w.waiting w.at.0 c.loop-read.tally (sym read ∙ c.statement_at.ensures) tallied c.walk_on.ensures c.loop-read.invariant.1) in
    let why : c.in_err-next.field-0.0 ≡ Unreadable = grind arith in
    let p = err_from_is_err_and c.from_residual-in_err-next.result c.from_residual-in_err-next.ensures.1 in
    rw (p.1, p.2, why) walked

pub returns-in-End : goal.returns-in-End
returns-in-End c =
    let w = c.loop-read.walk in
    let read : c.statement_at.result ≡ Some c.in_ok-read.read = grind arith in
    let on : c.walk_on.result ≡ Some c.in_ok-next.field-0 = grind arith in
    let tallied = c.with-tally.ensures ∙ ap (with_own c.loop-read.tally) c.own.ensures in
    c.verdict.ensures ∙ sym (verdict_ends c.with-tally.result)
    ∙ (rw (on, c.in-End.is) at
    (verdict_steps c.args.line.now w.first w.waiting w.at.0 c.loop-read.tally (sym read ∙ c.statement_at.ensures) tallied c.walk_on.ensures c.loop-read.invariant.1))

pub returns-in-Else : goal.returns-in-Else
returns-in-Else c =
    let w = c.loop-read.walk in
    let read : c.statement_at.result ≡ Some c.in_ok-read.read = grind arith in
    let on : c.walk_on.result ≡ Some c.in_ok-next.field-0 = grind arith in
    let tallied = c.with-tally.ensures ∙ ap (with_own c.loop-read.tally) c.own.ensures in
    rw (on, c.in-Else.is) at
    (verdict_steps c.args.line.now w.first w.waiting w.at.0 c.loop-read.tally (sym read ∙ c.statement_at.ensures) tallied c.walk_on.ensures c.loop-read.invariant.1)
