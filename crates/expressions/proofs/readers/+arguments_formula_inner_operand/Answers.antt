-- Each call is made with less left to read; whatever a loop reads from a turn on is what its function reads.
use borrow.Enum.Refused.{opened as unsealed}
use mathlib.Core.Path.{◌≡◌, sym, ap, ◌∙◌}
use mathlib.Core.Bool.{true}
use mathlib.Core.Logic.{inl, inr}
use Prim.Native.Nat.{◌+◌, ◌-◌}
use native.Mathlib.Omega.{arith}
use Rattle.std.specs.Prelude.{Some, None}
use Rattle.words.specs.declared.symbols.Token.TheVariants.{Symbol}
use Rattle.words.specs.declared.symbols.Sign.TheVariants.{Open, Comma}
use Rattle.grammar.specs.Tests.{is_symbol}
use Rattle.skimming.proofs.Weights.{symbol_reads, operator_reads, after_lighter}
use Rattle.expressions.proofs.Chains.{behind_lighter}
use Rattle.expressions.proofs.Steps.{inner_deep, after-heft, operand_heft, formula_climbs, climb_bad, climb_ends, climb_lighter, climb_goes, operand_number, operand_hexadecimal, operand_named, operand_quoted, operand_opens, operand_negates, operand_too_tight, operand_complements, operand_no_complement, operand_calls, operand_other, operand_no_sign, call_unopened, call_lists, next_lists, list_bad, list_ends, list_goes}
use Rattle.expressions.proofs.readers.+arguments_formula_inner_operand.Goals as goal

-- ---- arguments

pub arguments-returns-then-not-is_symbol : goal.arguments-returns-then-not-is_symbol
arguments-returns-then-not-is_symbol t c = call_unopened c.args.room c.args.line.now c.args.function c.args.ahead (sym (c.if-not-is_symbol.true) ∙ c.is_symbol.ensures)

pub arguments-loop-argument-init : goal.arguments-loop-argument-init
arguments-loop-argument-init t c =
    let opened : true ≡ is_symbol Open c.args.ahead.token = sym (c.if-not-is_symbol.false) ∙ c.is_symbol.ensures in
    record {
      met = λ r m. call_lists c.args.room c.args.line.now c.args.function c.args.ahead r opened m;
      near = omega arith;
      sign = symbol_reads Open c.args.ahead.token (sym opened);
    }

pub arguments-inner-requires : goal.arguments-inner-requires
arguments-inner-requires t c =
    let h = after_lighter c.args.line.now c.loop-argument.here c.loop-argument.invariant.sign in
    let i = c.loop-argument.invariant.near in
    rw c.token_at-first.ensures (omega (arith, c.decreases), tt)

pub arguments-returns-in_err-argument : goal.arguments-returns-in_err-argument
arguments-returns-in_err-argument t c =
    let m = rw (c.token_at-first.ensures, c.in_err-argument.was) at c.inner.ensures in
    rw c.from_residual.ensures (c.loop-argument.invariant.met None
    (next_lists c.args.room c.args.line.now c.args.function c.loop-argument.here c.loop-argument.taken.sorts c.loop-argument.taken.deepest None None
    c.loop-argument.invariant.sign
    m
    (list_bad c.args.room c.args.line.now c.args.function c.loop-argument.taken.sorts c.loop-argument.taken.deepest)))

pub arguments-returns-then-not-is_symbol-2 : goal.arguments-returns-then-not-is_symbol-2
arguments-returns-then-not-is_symbol-2 t c =
    let a = c.in_ok-argument.argument in
    let m = rw (c.token_at-first.ensures, c.in_ok-argument.was) at c.inner.ensures in
    let last = sym (c.if-not-is_symbol-2.true) ∙ c.is_symbol-in-loop-argument.ensures in
    c.loop-argument.invariant.met _
    (next_lists c.args.room c.args.line.now c.args.function c.loop-argument.here c.loop-argument.taken.sorts c.loop-argument.taken.deepest (Some a) _
    c.loop-argument.invariant.sign
    m
    (list_ends c.args.room c.args.line.now c.args.function c.loop-argument.taken.sorts c.loop-argument.taken.deepest a.ahead a.sort a.deepest
    c.with-taken.result.sorts c.with-taken.result.deepest c.with-taken.ensures _ last c.called.ensures))

pub arguments-loop-argument-smaller : goal.arguments-loop-argument-smaller
arguments-loop-argument-smaller t c =
    let m = rw (c.token_at-first.ensures, c.in_ok-argument.was) at c.inner.ensures in
    let h = after-heft c.args.room c.args.line.now 0 c.loop-argument.here c.loop-argument.invariant.sign m in
    omega arith

pub arguments-loop-argument-preserved : goal.arguments-loop-argument-preserved
arguments-loop-argument-preserved t c =
    let a = c.in_ok-argument.argument in
    let m = rw (c.token_at-first.ensures, c.in_ok-argument.was) at c.inner.ensures in
    let more : true ≡ is_symbol Comma a.ahead.token = sym (c.if-not-is_symbol-2.false) ∙ c.is_symbol-in-loop-argument.ensures in
    let h = after-heft c.args.room c.args.line.now 0 c.loop-argument.here c.loop-argument.invariant.sign m in
    let i = c.loop-argument.invariant.near in
    record {
      met = λ r l. c.loop-argument.invariant.met r
          (next_lists c.args.room c.args.line.now c.args.function c.loop-argument.here c.loop-argument.taken.sorts c.loop-argument.taken.deepest (Some a) r
          c.loop-argument.invariant.sign
          m
          (list_goes c.args.room c.args.line.now c.args.function c.loop-argument.taken.sorts c.loop-argument.taken.deepest a.ahead a.sort a.deepest
          c.with-taken.result.sorts c.with-taken.result.deepest c.with-taken.ensures r more l));
      near = omega arith;
      sign = symbol_reads Comma a.ahead.token (sym more);
    }

-- ---- formulas

pub formula-operand-requires : goal.formula-operand-requires
formula-operand-requires t c = (omega arith, tt)

pub formula-returns-in_err-left : goal.formula-returns-in_err-left
formula-returns-in_err-left t c =
    let m = rw c.in_err-left.was at c.operand.ensures in
    rw c.from_residual.ensures
    (formula_climbs (c.args.room + 1) c.args.line.now c.args.level c.args.ahead None None m (climb_bad (c.args.room + 1) c.args.line.now c.args.level))

pub formula-loop-operator-init : goal.formula-loop-operator-init
formula-loop-operator-init t c =
    let m = rw c.in_ok-left.was at c.operand.ensures in
    record {
      met = λ r l. formula_climbs (c.args.room + 1) c.args.line.now c.args.level c.args.ahead (Some c.in_ok-left.left) r m l;
      near = operand_heft (c.args.room + 1) c.args.line.now c.args.level c.args.ahead m;
    }

pub formula-returns : goal.formula-returns
formula-returns t c =
    let k = c.loop-operator.left in
    c.loop-operator.invariant.met (Some k)
    (climb_ends (c.args.room + 1) c.args.line.now c.args.level k.ahead k.sort k.deepest (sym c.in_default.is ∙ c.tight_operator.ensures))

pub formula-formula-requires : goal.formula-formula-requires
formula-formula-requires t c =
    let o = sym c.tight_operator.ensures ∙ c.in-Some.is in
    let h = after_lighter c.args.line.now c.loop-operator.left.ahead (operator_reads c.args.level c.loop-operator.left.ahead.token o) in
    let i = c.loop-operator.invariant.near in
    rw c.token_at-first.ensures (omega (arith, c.decreases), tt)

pub formula-returns-in_err-right : goal.formula-returns-in_err-right
formula-returns-in_err-right t c =
    let k = c.loop-operator.left in
    let o = sym c.in-Some.is ∙ c.tight_operator.ensures in
    let m = rw (c.token_at-first.ensures, c.right_level.ensures, c.in_err-right.was) at c.formula.ensures in
    rw c.from_residual-in_err-right.ensures (c.loop-operator.invariant.met None
    (climb_goes (c.args.room + 1) c.args.line.now c.args.level k.ahead k.sort k.deepest c.in-Some.operator o None m None
    (climb_bad (c.args.room + 1) c.args.line.now c.args.level)))

pub formula-loop-operator-smaller : goal.formula-loop-operator-smaller
formula-loop-operator-smaller t c =
    let k = c.loop-operator.left in
    let o = sym c.in-Some.is ∙ c.tight_operator.ensures in
    let m = rw (c.token_at-first.ensures, c.right_level.ensures, c.in_ok-right.was) at c.formula.ensures in
    let h = climb_lighter (c.args.room + 1) c.args.line.now c.args.level k.ahead k.sort k.deepest c.in-Some.operator o (Some c.in_ok-right.right) m in
    rw c.joined-left.ensures (omega arith)

pub formula-loop-operator-preserved : goal.formula-loop-operator-preserved
formula-loop-operator-preserved t c =
    let k = c.loop-operator.left in
    let o = sym c.in-Some.is ∙ c.tight_operator.ensures in
    let m = rw (c.token_at-first.ensures, c.right_level.ensures, c.in_ok-right.was) at c.formula.ensures in
    let h = climb_lighter (c.args.room + 1) c.args.line.now c.args.level k.ahead k.sort k.deepest c.in-Some.operator o (Some c.in_ok-right.right) m in
    let i = c.loop-operator.invariant.near in
    rw c.joined-left.ensures record {
      met = λ r l. c.loop-operator.invariant.met r
          (climb_goes (c.args.room + 1) c.args.line.now c.args.level k.ahead k.sort k.deepest c.in-Some.operator o (Some c.in_ok-right.right) m r l);
      near = omega arith;
    }

-- ---- what stands in parentheses

pub inner-formula-requires : goal.inner-formula-requires
inner-formula-requires t c = (omega arith, tt)

pub inner-returns-in_err-skim : goal.inner-returns-in_err-skim
inner-returns-in_err-skim t c n h =
    rw (c.from_residual.ensures, c.if-room-eq0.true) (inner_deep c.args.line.now c.args.ahead (sym c.in_err-skim.was ∙ c.skim.ensures) n h)

pub inner-returns-in_ok-skim : goal.inner-returns-in_ok-skim
inner-returns-in_ok-skim t c n h =
    rw (c.too_deep.ensures, c.if-room-eq0.true) (inner_deep c.args.line.now c.args.ahead (sym c.in_ok-skim.was ∙ c.skim.ensures) n h)

pub inner-returns-else-room-eq0 : goal.inner-returns-else-room-eq0
inner-returns-else-room-eq0 t c n h = let e : c.args.room - 1 + 1 ≡ c.args.room = omega (arith, c.if-room-eq0.false) in
    rw e at (c.formula.ensures n h)

-- ---- operands

pub operand-inner-requires : goal.operand-inner-requires
operand-inner-requires t c =
    let e = c.in-Symbol-Open.is ∙ ap Symbol (rw c.in-Symbol-Open.is at c.in-Symbol-Open.field-0-is) in
    let h = after_lighter c.args.line.now c.args.ahead (rw e) in
    rw c.token_at-first.ensures (omega (arith, c.decreases), tt)

pub operand-operand-requires : goal.operand-operand-requires
operand-operand-requires t c =
    let e = c.in-Symbol-Minus.is ∙ ap Symbol (rw c.in-Symbol-Minus.is at c.in-Symbol-Minus.field-0-is) in
    let h = after_lighter c.args.line.now c.args.ahead (rw e) in
    rw c.token_at-first-in-Symbol-Minus.ensures (omega (arith, c.decreases), tt)

pub operand-formula-requires : goal.operand-formula-requires
operand-formula-requires t c =
    let h = behind_lighter c.args.line.now c.args.ahead c.in-Not.is in
    rw c.past_nots.ensures (omega (arith, c.decreases), tt)

pub operand-arguments-requires : goal.operand-arguments-requires
operand-arguments-requires t c =
    let h = after_lighter c.args.line.now c.args.ahead (rw c.in-Call.is) in
    rw c.token_at-first-in-Call.ensures (omega (arith, c.decreases), tt)

pub operand-returns-in-Number : goal.operand-returns-in-Number
operand-returns-in-Number t c = rw c.leaf.ensures
    (elim c.in-Number.is [
      | inl h ↦ operand_number c.args.room c.args.line.now c.args.level c.args.ahead h.0 h.1
      | inr h ↦ operand_hexadecimal c.args.room c.args.line.now c.args.level c.args.ahead h.0 h.1
    ])

pub operand-returns-in-Named : goal.operand-returns-in-Named
operand-returns-in-Named t c = rw (c.leaf-in-Named.ensures, c.of_kind.ensures) (operand_named c.args.room c.args.line.now c.args.level c.args.ahead c.in-Named.name c.in-Named.is)

pub operand-returns-in-Quoted : goal.operand-returns-in-Quoted
operand-returns-in-Quoted t c = rw c.leaf-in-Quoted.ensures (operand_quoted c.args.room c.args.line.now c.args.level c.args.ahead c.in-Quoted.field-0 c.in-Quoted.is)

pub operand-returns-in_ok-inner-in-Symbol-Open : goal.operand-returns-in_ok-inner-in-Symbol-Open
operand-returns-in_ok-inner-in-Symbol-Open t c =
    let e = c.in-Symbol-Open.is ∙ ap Symbol (rw c.in-Symbol-Open.is at c.in-Symbol-Open.field-0-is) in
    let m = rw (c.token_at-first.ensures, c.in_ok-inner-in-Symbol-Open.was) at c.inner.ensures in
    rw c.closed.ensures (operand_opens c.args.room c.args.line.now c.args.level c.args.ahead (Some c.in_ok-inner-in-Symbol-Open.field-0) e m)

pub operand-returns-in_err-inner-in-Symbol-Open : goal.operand-returns-in_err-inner-in-Symbol-Open
operand-returns-in_err-inner-in-Symbol-Open t c =
    let e = c.in-Symbol-Open.is ∙ ap Symbol (rw c.in-Symbol-Open.is at c.in-Symbol-Open.field-0-is) in
    let m = rw (c.token_at-first.ensures, c.in_err-inner-in-Symbol-Open.was) at c.inner.ensures in
    rw c.from_residual.ensures (operand_opens c.args.room c.args.line.now c.args.level c.args.ahead None e m)

pub operand-returns-in_ok-operand-in-Symbol-Minus : goal.operand-returns-in_ok-operand-in-Symbol-Minus
operand-returns-in_ok-operand-in-Symbol-Minus t c =
    let e = c.in-Symbol-Minus.is ∙ ap Symbol (rw c.in-Symbol-Minus.is at c.in-Symbol-Minus.field-0-is) in
    let m = rw (c.token_at-first-in-Symbol-Minus.ensures, c.in_ok-operand-in-Symbol-Minus.was) at c.operand.ensures in
    rw c.fronted.ensures (operand_negates c.args.room c.args.line.now c.args.level c.args.ahead (Some c.in_ok-operand-in-Symbol-Minus.field-0) e
    (sym c.if-minus_stands.true ∙ c.minus_stands.ensures)
    m)

pub operand-returns-in_err-operand-in-Symbol-Minus : goal.operand-returns-in_err-operand-in-Symbol-Minus
operand-returns-in_err-operand-in-Symbol-Minus t c =
    let e = c.in-Symbol-Minus.is ∙ ap Symbol (rw c.in-Symbol-Minus.is at c.in-Symbol-Minus.field-0-is) in
    let m = rw (c.token_at-first-in-Symbol-Minus.ensures, c.in_err-operand-in-Symbol-Minus.was) at c.operand.ensures in
    rw c.from_residual-in_err-operand-in-Symbol-Minus.ensures (operand_negates c.args.room c.args.line.now c.args.level c.args.ahead None e
    (sym c.if-minus_stands.true ∙ c.minus_stands.ensures)
    m)

pub operand-returns-in_ok-formula-in-Not : goal.operand-returns-in_ok-formula-in-Not
operand-returns-in_ok-formula-in-Not t c =
    let m = rw (c.past_nots.ensures, c.in_ok-formula-in-Not.was) at c.formula.ensures in
    rw c.fronted-in-Not.ensures (operand_complements c.args.room c.args.line.now c.args.level c.args.ahead (Some c.in_ok-formula-in-Not.field-0) c.in-Not.is
    (sym c.if-not_stands.true ∙ c.not_stands.ensures)
    m)

pub operand-returns-in_err-formula-in-Not : goal.operand-returns-in_err-formula-in-Not
operand-returns-in_err-formula-in-Not t c =
    let m = rw (c.past_nots.ensures, c.in_err-formula-in-Not.was) at c.formula.ensures in
    rw c.from_residual-in_err-formula-in-Not.ensures (operand_complements c.args.room c.args.line.now c.args.level c.args.ahead None c.in-Not.is
    (sym c.if-not_stands.true ∙ c.not_stands.ensures)
    m)

pub operand-returns-in-Call : goal.operand-returns-in-Call
operand-returns-in-Call t c =
    let m = rw c.token_at-first-in-Call.ensures at c.arguments.ensures in
    operand_calls c.args.room c.args.line.now c.args.level c.args.ahead c.in-Call.function c.arguments.result c.in-Call.is m

pub operand-returns-in_default : goal.operand-returns-in_default
operand-returns-in_default t c =
    operand_too_tight c.args.room c.args.line.now c.args.level c.args.ahead (c.in-Symbol-Minus.is ∙ ap Symbol (rw c.in-Symbol-Minus.is at c.in-Symbol-Minus.field-0-is))
    (sym c.if-minus_stands.false ∙ c.minus_stands.ensures)

pub operand-returns-in_default-2 : goal.operand-returns-in_default-2
operand-returns-in_default-2 t c = operand_no_sign c.args.room c.args.line.now c.args.level c.args.ahead c.in_default.field-0 c.in_default.is (rw c.in_default.is at (unsealed c.in_default.in_default-own.keys3))

pub operand-returns-in_default-3 : goal.operand-returns-in_default-3
operand-returns-in_default-3 t c = operand_no_complement c.args.room c.args.line.now c.args.level c.args.ahead c.in-Not.is (sym c.if-not_stands.false ∙ c.not_stands.ensures)

pub operand-returns-in_default-4 : goal.operand-returns-in_default-4
operand-returns-in_default-4 t c = operand_other c.args.room c.args.line.now c.args.level c.args.ahead c.in_default.in_default-own.keys7
