use borrow.Enum.Refused.{opened as unsealed}
use mathlib.Core.Path.{sym, ap, ◌∙◌}
use native.Mathlib.Omega.{arith}
use borrow.Author.Tests.{not-true, not-false}
use Rattle.whole.proofs.Never.{never}
use Rattle.words.specs.declared.symbols.Sign.TheVariants.{Comma}
use Rattle.grammar.specs.Tests.{is_symbol}
use Rattle.grammar.specs.Formulas.{after}
use Rattle.skimming.proofs.Weights.{symbol_reads, after_lighter}
use Rattle.statements.proofs.Naming.{names_turn}
use Rattle.machine.specs.bridge.Holding.{position_of}
use Rattle.machine.proofs.Tokens.{no_name}
use Rattle.turns.specs.bridge.Turns.{after_of}
use Rattle.feeding.proofs.Giving.{sets_none}
use Rattle.feeding.proofs.Filling.{first, first_more, sets_then, fills_begin, fills_on, fills_last, fills_fails}
use Rattle.feeding.proofs.reading.read.Goals as goal

pub loop-name-init : goal.loop-name-init
loop-name-init c = (c.requires.0, (c.requires.1.0, (sets_none c.requires.1.1, λ vs u e. fills_begin e)))

pub returns-in_default : goal.returns-in_default
returns-in_default c = let h = names_turn c.args.line.now c.loop-name.target ∙ no_name c.loop-name.target.token _ _ (unsealed c.in_default.in_default-own.keys2) in
    λ input room at vs u sound p e. never (cc)

pub give-requires : goal.give-requires
give-requires c = (c.loop-name.invariant.1.0, c.loop-name.invariant.1.1.0.settled)

pub shape_of-space-in-Err : goal.shape_of-space-in-Err
shape_of-space-in-Err c = c.give.ensures.0.long ∙ c.loop-name.invariant.1.1.0.long

pub returns-in-Err : goal.returns-in-Err
returns-in-Err c = λ input room at vs u sound p e.
    rw c.fails-in-Err.ensures
    (fills_fails (c.loop-name.invariant.1.1.1 vs u e) c.in-Named.is input room c.args.here at sound c.in-Err.failed
    (sets_then c.loop-name.invariant.1.1.0 (rw c.in-Err.is at c.give.ensures.0)) (rw c.in-Err.is at c.give.ensures.1.1) (position_of c.args.text.now (after_of c.args.here u)))

pub shape_of-space-then-not-is_symbol : goal.shape_of-space-then-not-is_symbol
shape_of-space-then-not-is_symbol c = c.give.ensures.0.long ∙ c.loop-name.invariant.1.1.0.long

pub returns-then-not-is_symbol : goal.returns-then-not-is_symbol
returns-then-not-is_symbol c = let cm = ap (λ t. is_symbol Comma t.token) c.token_at-ahead.ensures in
    λ input room at vs u sound p e.
    rw (c.goes_on.ensures, c.token_at-ahead.ensures)
    (fills_last (c.loop-name.invariant.1.1.1 vs u e) c.in-Named.is input room c.args.here at sound c.in-Ok.next
    (sym cm ∙ sym c.is_symbol.ensures ∙ not-true c.is_symbol.result c.if-not-is_symbol.true-raw)
    (sets_then c.loop-name.invariant.1.1.0 (rw c.in-Ok.is at c.give.ensures.0)) (rw c.in-Ok.is at c.give.ensures.1.1) p)

pub loop-name-smaller : goal.loop-name-smaller
loop-name-smaller c = let cm = ap (λ t'. is_symbol Comma t'.token) c.token_at-ahead.ensures in
    let a = after_lighter c.args.line.now c.loop-name.target (rw c.in-Named.is) in
    let b = after_lighter c.args.line.now (after c.args.line.now c.loop-name.target) (symbol_reads Comma (after c.args.line.now c.loop-name.target).token (sym cm ∙ sym c.is_symbol.ensures ∙ not-false c.is_symbol.result c.if-not-is_symbol.false-raw)) in
    rw (c.token_at-target.ensures, c.token_at-ahead.ensures) (omega (arith, a, b))

pub loop-name-preserved : goal.loop-name-preserved
loop-name-preserved c = let cm = ap (λ t. is_symbol Comma t.token) c.token_at-ahead.ensures in
    let m = sym cm ∙ sym c.is_symbol.ensures ∙ not-false c.is_symbol.result c.if-not-is_symbol.false-raw in
    let k = first c.in-Named.is c.loop-name.invariant.0.is in
    rw (c.token_at-target.ensures, c.token_at-ahead.ensures) (
      record { all = k.others; end = c.loop-name.invariant.0.end; is = first_more k m },
      (
        record { loads = c.loop-name.invariant.1.0.loads; fed = rw c.in-Ok.is at c.give.ensures.1.0 },
        (
          sets_then c.loop-name.invariant.1.1.0 (rw c.in-Ok.is at c.give.ensures.0),
          λ vs u e. fills_on (c.loop-name.invariant.1.1.1 vs u e) c.in-Named.is c.in-Ok.next m (rw c.in-Ok.is at c.give.ensures.1.1),
        ),
      ),
    )
