use Rattle.std.specs.Prelude.{Some}
use mathlib.Core.Path.{sym, ap, ◌∙◌}
use native.Mathlib.Omega.{arith}
use Rattle.grammar.specs.Tests.{is_symbol}
use Rattle.grammar.specs.Formulas.{after}
use Rattle.skimming.proofs.Weights.{symbol_reads, after_lighter}
use Rattle.words.specs.declared.symbols.Sign.TheVariants.{Comma}
use Rattle.statements.proofs.Findings.{passed, failed}
use Rattle.statements.proofs.Naming.{name_token, read_begins, read_stops, read_last, read_more}
use Rattle.statements.proofs.reading.read.Goals as goal

pub loop-next-init : goal.loop-next-init
loop-next-init c = read_begins c.args.line.now c.args.ahead

pub returns-in_err-name_at : goal.returns-in_err-name_at
returns-in_err-name_at c = c.from_residual.ensures ∙ sym (read_stops c.args.line.now c.loop-next.here c.loop-next.invariant (sym c.name_at.ensures ∙ c.in_err-name_at.was))

pub returns-then-not-sign_stands : goal.returns-then-not-sign_stands
returns-then-not-sign_stands c = let name = sym c.name_at.ensures ∙ c.in_ok-name_at.was in
    let e = ap (λ t. is_symbol Comma t.token) c.token_after-next.ensures in
    ap Some c.plain.ensures ∙ rw c.token_after-next.ensures (sym (read_last c.args.line.now c.loop-next.here c.loop-next.invariant name (sym e ∙ failed c.sign_stands.ensures c.if-not-sign_stands.true-raw)))

pub loop-next-smaller : goal.loop-next-smaller
loop-next-smaller c = let name = name_token c.loop-next.here.token (sym c.name_at.ensures ∙ c.in_ok-name_at.was) in
    let e = ap (λ t. is_symbol Comma t.token) c.token_after-next.ensures in
    let a = after_lighter c.args.line.now c.loop-next.here (rw name) in
    let b = after_lighter c.args.line.now (after c.args.line.now c.loop-next.here) (symbol_reads Comma (after c.args.line.now c.loop-next.here).token (sym e ∙ passed c.sign_stands.ensures c.if-not-sign_stands.false-raw)) in
    rw (c.token_after-here.ensures, c.token_after-next.ensures) (omega arith)

pub loop-next-preserved : goal.loop-next-preserved
loop-next-preserved c = let name = sym c.name_at.ensures ∙ c.in_ok-name_at.was in
    let e = ap (λ t. is_symbol Comma t.token) c.token_after-next.ensures in
    rw (c.token_after-here.ensures, c.token_after-next.ensures) (read_more c.args.line.now c.loop-next.here c.loop-next.invariant name (sym e ∙ passed c.sign_stands.ensures c.if-not-sign_stands.false-raw))
