-- The loop's invariant: of the statements from the place reached on, those beyond the limit are those of the whole line.
use mathlib.Core.Path.{sym, ◌∙◌}
use native.Mathlib.Omega.{arith}
use Rattle.order.proofs.Lining.{steps}
use Rattle.order.proofs.Rising.{seeks_first, seeks_here, seeks_on, seeks_end, seeks_next}
use Rattle.order.proofs.lines.first_beyond.Goals as goal

pub loop-here-init : goal.loop-here-init
loop-here-init c = λ part e. seeks_first c.args.line.now c.args.at.0 part e

pub returns-then-limit-here : goal.returns-then-limit-here
returns-then-limit-here c = λ part e. seeks_here c.args.line.now (c.loop-here.invariant part e) c.if-limit-here.true

pub returns-in_err-here : goal.returns-in_err-here
returns-in_err-here c = λ part e.
    let stepped = steps c.args.line.now c.loop-here.here.0 c.statement_at.ensures (sym c.in_err-here.was ∙ c.next_statement.ensures) in
    let k = seeks_on c.args.line.now (c.loop-here.invariant part e) (omega (arith, c.if-limit-here.false)) in
    rw c.from_residual.ensures (seeks_end c.args.line.now k (stepped.1 k.first k.others k.onto))

pub loop-here-smaller : goal.loop-here-smaller
loop-here-smaller c =
    let stepped = steps c.args.line.now c.loop-here.here.0 c.statement_at.ensures (sym c.in_ok-here.was ∙ c.next_statement.ensures) in
    let l = stepped.0 in omega (arith, l)

pub loop-here-preserved : goal.loop-here-preserved
loop-here-preserved c = λ part e.
    let stepped = steps c.args.line.now c.loop-here.here.0 c.statement_at.ensures (sym c.in_ok-here.was ∙ c.next_statement.ensures) in
    let k = seeks_on c.args.line.now (c.loop-here.invariant part e) (omega (arith, c.if-limit-here.false)) in
    seeks_next c.args.line.now k (stepped.1 k.first k.others k.onto)
