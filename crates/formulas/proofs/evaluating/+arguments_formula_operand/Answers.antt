-- Each call is made with less left to read. A left side, and a list of arguments, stand at every turn to the whole formula as they did at
-- the first.
use borrow.Enum.Refused.{opened as unsealed}
use Rattle.std.specs.Prelude.{Ok}
use Rattle.std.proofs.lemmas.Result.{err_from_is_err_and}
use mathlib.Core.Path.{◌≡◌, refl, ap, ◌∙◌}
use native.Mathlib.Omega.{arith}
use Rattle.words.specs.declared.symbols.Scanned.{Scanned}
use Rattle.grammar.specs.Trees.{Formula, none}
use Rattle.grammar.specs.Formulas.{good}
use Rattle.skimming.specs.bridge.Remaining.{weight, formula_in, arguments_of}
use Rattle.expressions.proofs.Steps.{operand_other, operand_no_sign}
use Rattle.formulas.proofs.Climbing.{formula_operand, Climbing, climbing_begins, climbing_ends, climbing_refused, right_lighter, right_ready, right_asks, right_fits, climbing_goes, climbing_lightens}
use Rattle.formulas.proofs.Heads.{not_operand, quoted_within, sign_lighter, opened_room, opened_asks, negated_asks, chain_asks, chain_lighter, call_is, call_lighter, call_room, call_asks, number_done, hexadecimal_done, named_done, quoted_done, opened_done, negated_done, complemented_done}
use Rattle.formulas.proofs.Listing.{Listing, listing_begins, next_ready, next_asks, listing_long, listing_fault, all_placed, listing_ends, listing_lightens, listing_goes}
use Rattle.formulas.proofs.evaluating.+arguments_formula_operand.Goals as goal

pub arguments-loop-all-init : goal.arguments-loop-all-init
arguments-loop-all-init t c w before f u l = l

pub arguments-given_length-requires : goal.arguments-given_length-requires
arguments-given_length-requires t c =
    let arguments_had : (f : Formula) (u : Scanned) → arguments_of c.args.line.now c.args.function none (formula_in c.args.line.now 0 c.args.ahead) ≡ good f u → Listing c.args.line.now c.args.tables.now c.args.function c.is_of_three-three.result c.args.used.0 (weight c.args.line.now c.args.ahead) f u c.args.space.now c.loop-all.given c.loop-all.here c.loop-all.space = λ f u e. c.loop-all.invariant (weight c.args.line.now c.args.ahead) c.args.space.now f u
    (listing_begins c.args.line.now c.args.tables.now c.args.function c.is_of_three-three.result c.args.used.0
    c.args.ahead f u c.args.space.now e c.requires.1.0 c.requires.0 c.is_of_three-three.ensures) in
    let arguments_here : Listing c.args.line.now c.args.tables.now c.args.function c.is_of_three-three.result c.args.used.0 (weight c.args.line.now c.args.ahead) c.requires.1.1.of c.requires.1.1.next c.args.space.now c.loop-all.given c.loop-all.here c.loop-all.space = arguments_had c.requires.1.1.of c.requires.1.1.next c.requires.1.1.is in
    let r = next_ready (arguments_here) refl in omega (arith, r.within, r.small)

pub arguments-overflow_add-used : goal.arguments-overflow_add-used
arguments-overflow_add-used t c =
    let arguments_had : (f : Formula) (u : Scanned) → arguments_of c.args.line.now c.args.function none (formula_in c.args.line.now 0 c.args.ahead) ≡ good f u → Listing c.args.line.now c.args.tables.now c.args.function c.is_of_three-three.result c.args.used.0 (weight c.args.line.now c.args.ahead) f u c.args.space.now c.loop-all.given c.loop-all.here c.loop-all.space = λ f u e. c.loop-all.invariant (weight c.args.line.now c.args.ahead) c.args.space.now f u
    (listing_begins c.args.line.now c.args.tables.now c.args.function c.is_of_three-three.result c.args.used.0
    c.args.ahead f u c.args.space.now e c.requires.1.0 c.requires.0 c.is_of_three-three.ensures) in
    let arguments_here : Listing c.args.line.now c.args.tables.now c.args.function c.is_of_three-three.result c.args.used.0 (weight c.args.line.now c.args.ahead) c.requires.1.1.of c.requires.1.1.next c.args.space.now c.loop-all.given c.loop-all.here c.loop-all.space = arguments_had c.requires.1.1.of c.requires.1.1.next c.requires.1.1.is in
    let r = next_ready (arguments_here) c.given_length.ensures in omega (arith, r.within, r.small)

pub arguments-formula-worked-requires : goal.arguments-formula-worked-requires
arguments-formula-worked-requires t c =
    let arguments_had : (f : Formula) (u : Scanned) → arguments_of c.args.line.now c.args.function none (formula_in c.args.line.now 0 c.args.ahead) ≡ good f u → Listing c.args.line.now c.args.tables.now c.args.function c.is_of_three-three.result c.args.used.0 (weight c.args.line.now c.args.ahead) f u c.args.space.now c.loop-all.given c.loop-all.here c.loop-all.space = λ f u e. c.loop-all.invariant (weight c.args.line.now c.args.ahead) c.args.space.now f u
    (listing_begins c.args.line.now c.args.tables.now c.args.function c.is_of_three-three.result c.args.used.0
    c.args.ahead f u c.args.space.now e c.requires.1.0 c.requires.0 c.is_of_three-three.ensures) in
    let arguments_here : Listing c.args.line.now c.args.tables.now c.args.function c.is_of_three-three.result c.args.used.0 (weight c.args.line.now c.args.ahead) c.requires.1.1.of c.requires.1.1.next c.args.space.now c.loop-all.given c.loop-all.here c.loop-all.space = arguments_had c.requires.1.1.of c.requires.1.1.next c.requires.1.1.is in
    let here = arguments_here in
    (omega (arith, here.lighter, c.decreases), next_asks here c.given_length.ensures c.args.room c.requires.1.1.shallow)

pub arguments-returns-in_err-all : goal.arguments-returns-in_err-all
arguments-returns-in_err-all t c f u e =
    let arguments_had : (f : Formula) (u : Scanned) → arguments_of c.args.line.now c.args.function none (formula_in c.args.line.now 0 c.args.ahead) ≡ good f u → Listing c.args.line.now c.args.tables.now c.args.function c.is_of_three-three.result c.args.used.0 (weight c.args.line.now c.args.ahead) f u c.args.space.now c.loop-all.given c.loop-all.here c.loop-all.space = λ f u e. c.loop-all.invariant (weight c.args.line.now c.args.ahead) c.args.space.now f u
    (listing_begins c.args.line.now c.args.tables.now c.args.function c.is_of_three-three.result c.args.used.0
    c.args.ahead f u c.args.space.now e c.requires.1.0 c.requires.0 c.is_of_three-three.ensures) in
    let p = err_from_is_err_and c.from_residual.result c.from_residual.ensures.1 in
    rw (p.1, p.2)
    (listing_fault (arguments_had f u e) c.given_length.ensures c.formula-worked.result c.formula-worked.ensures
    c.take_argument.ensures c.in_err-all.was)

pub arguments-called-requires : goal.arguments-called-requires
arguments-called-requires t c =
    let arguments_had : (f : Formula) (u : Scanned) → arguments_of c.args.line.now c.args.function none (formula_in c.args.line.now 0 c.args.ahead) ≡ good f u → Listing c.args.line.now c.args.tables.now c.args.function c.is_of_three-three.result c.args.used.0 (weight c.args.line.now c.args.ahead) f u c.args.space.now c.loop-all.given c.loop-all.here c.loop-all.space = λ f u e. c.loop-all.invariant (weight c.args.line.now c.args.ahead) c.args.space.now f u
    (listing_begins c.args.line.now c.args.tables.now c.args.function c.is_of_three-three.result c.args.used.0
    c.args.ahead f u c.args.space.now e c.requires.1.0 c.requires.0 c.is_of_three-three.ensures) in
    let arguments_here : Listing c.args.line.now c.args.tables.now c.args.function c.is_of_three-three.result c.args.used.0 (weight c.args.line.now c.args.ahead) c.requires.1.1.of c.requires.1.1.next c.args.space.now c.loop-all.given c.loop-all.here c.loop-all.space = arguments_had c.requires.1.1.of c.requires.1.1.next c.requires.1.1.is in
    all_placed (arguments_here) c.given_length.ensures c.formula-worked.result c.formula-worked.ensures
    c.take_argument.ensures (c.in_ok-all.was ∙ ap Ok c.in-All.is)

pub arguments-shape_of-space-in-All : goal.arguments-shape_of-space-in-All
arguments-shape_of-space-in-All t c =
    let arguments_had : (f : Formula) (u : Scanned) → arguments_of c.args.line.now c.args.function none (formula_in c.args.line.now 0 c.args.ahead) ≡ good f u → Listing c.args.line.now c.args.tables.now c.args.function c.is_of_three-three.result c.args.used.0 (weight c.args.line.now c.args.ahead) f u c.args.space.now c.loop-all.given c.loop-all.here c.loop-all.space = λ f u e. c.loop-all.invariant (weight c.args.line.now c.args.ahead) c.args.space.now f u
    (listing_begins c.args.line.now c.args.tables.now c.args.function c.is_of_three-three.result c.args.used.0
    c.args.ahead f u c.args.space.now e c.requires.1.0 c.requires.0 c.is_of_three-three.ensures) in
    let arguments_here : Listing c.args.line.now c.args.tables.now c.args.function c.is_of_three-three.result c.args.used.0 (weight c.args.line.now c.args.ahead) c.requires.1.1.of c.requires.1.1.next c.args.space.now c.loop-all.given c.loop-all.here c.loop-all.space = arguments_had c.requires.1.1.of c.requires.1.1.next c.requires.1.1.is in
    c.called.ensures.framed.long
    ∙ listing_long (arguments_here) c.given_length.ensures c.formula-worked.result c.formula-worked.ensures

pub arguments-returns-in-All : goal.arguments-returns-in-All
arguments-returns-in-All t c f u e =
    let arguments_had : (f : Formula) (u : Scanned) → arguments_of c.args.line.now c.args.function none (formula_in c.args.line.now 0 c.args.ahead) ≡ good f u → Listing c.args.line.now c.args.tables.now c.args.function c.is_of_three-three.result c.args.used.0 (weight c.args.line.now c.args.ahead) f u c.args.space.now c.loop-all.given c.loop-all.here c.loop-all.space = λ f u e. c.loop-all.invariant (weight c.args.line.now c.args.ahead) c.args.space.now f u
    (listing_begins c.args.line.now c.args.tables.now c.args.function c.is_of_three-three.result c.args.used.0
    c.args.ahead f u c.args.space.now e c.requires.1.0 c.requires.0 c.is_of_three-three.ensures) in
    listing_ends (arguments_had f u e) c.given_length.ensures c.formula-worked.result c.formula-worked.ensures
    c.take_argument.ensures (c.in_ok-all.was ∙ ap Ok c.in-All.is) c.token_at-after.ensures c.called.result c.called.ensures

pub arguments-loop-all-smaller : goal.arguments-loop-all-smaller
arguments-loop-all-smaller t c =
    let arguments_had : (f : Formula) (u : Scanned) → arguments_of c.args.line.now c.args.function none (formula_in c.args.line.now 0 c.args.ahead) ≡ good f u → Listing c.args.line.now c.args.tables.now c.args.function c.is_of_three-three.result c.args.used.0 (weight c.args.line.now c.args.ahead) f u c.args.space.now c.loop-all.given c.loop-all.here c.loop-all.space = λ f u e. c.loop-all.invariant (weight c.args.line.now c.args.ahead) c.args.space.now f u
    (listing_begins c.args.line.now c.args.tables.now c.args.function c.is_of_three-three.result c.args.used.0
    c.args.ahead f u c.args.space.now e c.requires.1.0 c.requires.0 c.is_of_three-three.ensures) in
    let arguments_here : Listing c.args.line.now c.args.tables.now c.args.function c.is_of_three-three.result c.args.used.0 (weight c.args.line.now c.args.ahead) c.requires.1.1.of c.requires.1.1.next c.args.space.now c.loop-all.given c.loop-all.here c.loop-all.space = arguments_had c.requires.1.1.of c.requires.1.1.next c.requires.1.1.is in
    listing_lightens (arguments_here) c.given_length.ensures c.formula-worked.result c.formula-worked.ensures
    c.take_argument.ensures (c.in_ok-all.was ∙ ap Ok c.in-More.is) c.token_at-here.ensures

pub arguments-loop-all-preserved : goal.arguments-loop-all-preserved
arguments-loop-all-preserved t c w before f u l = listing_goes (c.loop-all.invariant w before f u l) c.given_length.ensures c.formula-worked.result c.formula-worked.ensures
    c.take_argument.ensures (c.in_ok-all.was ∙ ap Ok c.in-More.is) c.token_at-here.ensures

pub formula-operand-left-requires : goal.formula-operand-left-requires
formula-operand-left-requires t c = (omega (arith, c.decreases), (c.requires.0, (c.requires.1.0, formula_operand c.args.room c.args.line.now c.args.level c.args.ahead c.requires.1.1)))

pub formula-loop-operator-init : goal.formula-loop-operator-init
formula-loop-operator-init t c w before f u l = l

pub formula-returns : goal.formula-returns
formula-returns t c f u e =
    let formula_left : (f : Formula) (u : Scanned) → formula_in c.args.line.now c.args.level c.args.ahead ≡ good f u → Climbing c.args.line.now c.args.tables.now c.args.level c.args.used.0 (weight c.args.line.now c.args.ahead) f u c.args.space.now c.loop-operator.left c.loop-operator.space = λ f u e. c.loop-operator.invariant (weight c.args.line.now c.args.ahead) c.args.space.now f u
    (climbing_begins c.args.line.now c.args.tables.now c.args.level c.args.used.0
    c.args.ahead f u c.requires.0 e c.operand-left.ensures) in
    climbing_ends (formula_left f u e) c.turn_of.ensures (c.in_ok-operator.was ∙ ap Ok c.in_default.is)

pub formula-returns-in_err-operator : goal.formula-returns-in_err-operator
formula-returns-in_err-operator t c f u e =
    let formula_left : (f : Formula) (u : Scanned) → formula_in c.args.line.now c.args.level c.args.ahead ≡ good f u → Climbing c.args.line.now c.args.tables.now c.args.level c.args.used.0 (weight c.args.line.now c.args.ahead) f u c.args.space.now c.loop-operator.left c.loop-operator.space = λ f u e. c.loop-operator.invariant (weight c.args.line.now c.args.ahead) c.args.space.now f u
    (climbing_begins c.args.line.now c.args.tables.now c.args.level c.args.used.0
    c.args.ahead f u c.requires.0 e c.operand-left.ensures) in
    let p = err_from_is_err_and c.from_residual.result c.from_residual.ensures.1 in
    rw (p.1, p.2) (climbing_refused (formula_left f u e) c.turn_of.ensures c.in_err-operator.was)

pub formula-overflow_add-used : goal.formula-overflow_add-used
formula-overflow_add-used t c =
    let formula_left : (f : Formula) (u : Scanned) → formula_in c.args.line.now c.args.level c.args.ahead ≡ good f u → Climbing c.args.line.now c.args.tables.now c.args.level c.args.used.0 (weight c.args.line.now c.args.ahead) f u c.args.space.now c.loop-operator.left c.loop-operator.space = λ f u e. c.loop-operator.invariant (weight c.args.line.now c.args.ahead) c.args.space.now f u
    (climbing_begins c.args.line.now c.args.tables.now c.args.level c.args.used.0
    c.args.ahead f u c.requires.0 e c.operand-left.ensures) in
    let formula_here : Climbing c.args.line.now c.args.tables.now c.args.level c.args.used.0 (weight c.args.line.now c.args.ahead) c.requires.1.1.of c.requires.1.1.next c.args.space.now c.loop-operator.left c.loop-operator.space = formula_left c.requires.1.1.of c.requires.1.1.next c.requires.1.1.is in
    let r = right_ready (formula_here) c.turn_of.ensures (c.in_ok-operator.was ∙ ap Ok c.in-Some.is) c.token_at-first.ensures
    c.right_level.ensures c.text_length.ensures in
    omega (arith, r.within, r.small)

pub formula-formula-right-requires : goal.formula-formula-right-requires
formula-formula-right-requires t c =
    let formula_left : (f : Formula) (u : Scanned) → formula_in c.args.line.now c.args.level c.args.ahead ≡ good f u → Climbing c.args.line.now c.args.tables.now c.args.level c.args.used.0 (weight c.args.line.now c.args.ahead) f u c.args.space.now c.loop-operator.left c.loop-operator.space = λ f u e. c.loop-operator.invariant (weight c.args.line.now c.args.ahead) c.args.space.now f u
    (climbing_begins c.args.line.now c.args.tables.now c.args.level c.args.used.0
    c.args.ahead f u c.requires.0 e c.operand-left.ensures) in
    let formula_here : Climbing c.args.line.now c.args.tables.now c.args.level c.args.used.0 (weight c.args.line.now c.args.ahead) c.requires.1.1.of c.requires.1.1.next c.args.space.now c.loop-operator.left c.loop-operator.space = formula_left c.requires.1.1.of c.requires.1.1.next c.requires.1.1.is in
    let here = formula_here in
    (omega (arith, right_lighter here c.turn_of.ensures (c.in_ok-operator.was ∙ ap Ok c.in-Some.is) c.token_at-first.ensures, c.decreases), right_asks here c.turn_of.ensures (c.in_ok-operator.was ∙ ap Ok c.in-Some.is) c.token_at-first.ensures c.right_level.ensures c.text_length.ensures c.args.room c.requires.1.1.shallow)

pub formula-joined-left-requires : goal.formula-joined-left-requires
formula-joined-left-requires t c =
    let formula_left : (f : Formula) (u : Scanned) → formula_in c.args.line.now c.args.level c.args.ahead ≡ good f u → Climbing c.args.line.now c.args.tables.now c.args.level c.args.used.0 (weight c.args.line.now c.args.ahead) f u c.args.space.now c.loop-operator.left c.loop-operator.space = λ f u e. c.loop-operator.invariant (weight c.args.line.now c.args.ahead) c.args.space.now f u
    (climbing_begins c.args.line.now c.args.tables.now c.args.level c.args.used.0
    c.args.ahead f u c.requires.0 e c.operand-left.ensures) in
    let formula_here : Climbing c.args.line.now c.args.tables.now c.args.level c.args.used.0 (weight c.args.line.now c.args.ahead) c.requires.1.1.of c.requires.1.1.next c.args.space.now c.loop-operator.left c.loop-operator.space = formula_left c.requires.1.1.of c.requires.1.1.next c.requires.1.1.is in
    right_fits (formula_here) c.turn_of.ensures (c.in_ok-operator.was ∙ ap Ok c.in-Some.is) c.token_at-first.ensures
    c.right_level.ensures c.text_length.ensures c.formula-right.result c.formula-right.ensures

pub formula-loop-operator-smaller : goal.formula-loop-operator-smaller
formula-loop-operator-smaller t c =
    let formula_left : (f : Formula) (u : Scanned) → formula_in c.args.line.now c.args.level c.args.ahead ≡ good f u → Climbing c.args.line.now c.args.tables.now c.args.level c.args.used.0 (weight c.args.line.now c.args.ahead) f u c.args.space.now c.loop-operator.left c.loop-operator.space = λ f u e. c.loop-operator.invariant (weight c.args.line.now c.args.ahead) c.args.space.now f u
    (climbing_begins c.args.line.now c.args.tables.now c.args.level c.args.used.0
    c.args.ahead f u c.requires.0 e c.operand-left.ensures) in
    let formula_here : Climbing c.args.line.now c.args.tables.now c.args.level c.args.used.0 (weight c.args.line.now c.args.ahead) c.requires.1.1.of c.requires.1.1.next c.args.space.now c.loop-operator.left c.loop-operator.space = formula_left c.requires.1.1.of c.requires.1.1.next c.requires.1.1.is in
    climbing_lightens (formula_here) c.turn_of.ensures (c.in_ok-operator.was ∙ ap Ok c.in-Some.is) c.token_at-first.ensures
    c.right_level.ensures c.text_length.ensures c.formula-right.result c.formula-right.ensures
    c.joined-left.result c.joined-left.ensures

pub formula-loop-operator-preserved : goal.formula-loop-operator-preserved
formula-loop-operator-preserved t c w before f u l = climbing_goes (c.loop-operator.invariant w before f u l) c.turn_of.ensures (c.in_ok-operator.was ∙ ap Ok c.in-Some.is) c.token_at-first.ensures
    c.right_level.ensures c.text_length.ensures c.formula-right.result c.formula-right.ensures
    c.joined-left.result c.joined-left.ensures

pub operand-named-requires : goal.operand-named-requires
operand-named-requires t c = c.requires.0

pub operand-quoted-requires : goal.operand-quoted-requires
operand-quoted-requires t c = (quoted_within c.requires.1.0 c.in-Quoted.quotation c.in-Quoted.is, (c.requires.0.short, c.requires.0.within))

pub operand-overflow_sub-room : goal.operand-overflow_sub-room
operand-overflow_sub-room t c = opened_room c.args.line.now c.requires.1.1.level c.args.ahead c.requires.1.1.reads.is c.token_at-after.ensures c.in-Symbol.is c.args.room c.requires.1.1.reads.shallow c.in-Open.is

pub operand-formula-requires : goal.operand-formula-requires
operand-formula-requires t c = (
  omega (arith, c.decreases, sign_lighter c.args.line.now c.requires.1.1.level c.args.ahead c.requires.1.1.reads.is c.token_at-after.ensures c.in-Symbol.is),
  (c.requires.0, opened_asks c.args.line.now c.requires.1.1.level c.args.ahead c.requires.1.1.reads.is c.token_at-after.ensures c.in-Symbol.is c.args.room c.requires.1.1.reads.shallow c.in-Open.is),
)

pub operand-operand-requires : goal.operand-operand-requires
operand-operand-requires t c = (
  omega (arith, c.decreases, sign_lighter c.args.line.now c.requires.1.1.level c.args.ahead c.requires.1.1.reads.is c.token_at-after.ensures c.in-Symbol.is),
  (c.requires.0, negated_asks c.args.line.now c.requires.1.1.level c.args.ahead c.requires.1.1.reads.is c.token_at-after.ensures c.in-Symbol.is c.args.room c.requires.1.1.reads.shallow c.in-Minus.is),
)

pub operand-formula-worked-requires : goal.operand-formula-worked-requires
operand-formula-worked-requires t c = (
  omega (arith, c.decreases, chain_lighter c.args.line.now c.requires.1.1.level c.args.ahead c.requires.1.1.reads.is c.in-Not.is c.past_nots-nots.ensures),
  (c.requires.0, chain_asks c.args.line.now c.requires.1.1.level c.args.ahead c.requires.1.1.reads.is c.in-Not.is c.past_nots-nots.ensures c.requires.1.0 c.args.room c.requires.1.1.reads.shallow),
)

pub operand-overflow_sub-room-in-Call : goal.operand-overflow_sub-room-in-Call
operand-overflow_sub-room-in-Call t c = call_room c.args.line.now c.requires.1.1.level c.args.ahead c.requires.1.1.reads.is c.token_at-after.ensures c.in-Call.is c.token_at-first.ensures c.args.room c.requires.1.1.reads.shallow

pub operand-arguments-requires : goal.operand-arguments-requires
operand-arguments-requires t c = (
  omega (arith, c.decreases, call_lighter c.args.line.now c.requires.1.1.level c.args.ahead c.requires.1.1.reads.is c.token_at-after.ensures c.in-Call.is c.token_at-first.ensures),
  (c.requires.0, call_asks c.args.line.now c.requires.1.1.level c.args.ahead c.requires.1.1.reads.is c.token_at-after.ensures c.in-Call.is c.token_at-first.ensures c.args.room c.requires.1.1.reads.shallow),
)

pub operand-returns-in-Number : goal.operand-returns-in-Number
operand-returns-in-Number t c level f u e = number_done c.args.line.now level c.args.ahead e c.token_at-after.ensures c.in-Number.word c.args.space.now c.requires.0.within c.in-Number.is

pub operand-returns-in-Hexadecimal : goal.operand-returns-in-Hexadecimal
operand-returns-in-Hexadecimal t c level f u e = hexadecimal_done c.args.line.now level c.args.ahead e c.token_at-after.ensures c.in-Hexadecimal.word c.args.space.now c.requires.0.within c.in-Hexadecimal.is

pub operand-returns-in-Named : goal.operand-returns-in-Named
operand-returns-in-Named t c level f u e = named_done c.args.line.now level c.args.ahead e c.token_at-after.ensures c.named.result c.in-Named.name c.in-Named.is c.named.ensures

pub operand-returns-in-Quoted : goal.operand-returns-in-Quoted
operand-returns-in-Quoted t c level f u e = quoted_done c.args.line.now level c.args.ahead e c.token_at-after.ensures c.quoted.result c.in-Quoted.quotation c.in-Quoted.is c.quoted.ensures

pub operand-returns-in-Open : goal.operand-returns-in-Open
operand-returns-in-Open t c level f u e = rw c.closed.ensures
    (opened_done c.args.line.now level c.args.ahead e c.token_at-after.ensures c.formula.result
    c.in-Symbol.is c.in-Open.is c.formula.ensures)

pub operand-returns-in-Minus : goal.operand-returns-in-Minus
operand-returns-in-Minus t c level f u e = rw c.negated.ensures
    (negated_done c.args.line.now level c.args.ahead e c.token_at-after.ensures c.operand.result
    c.in-Symbol.is c.in-Minus.is c.operand.ensures)

pub operand-returns-in_default-sign : goal.operand-returns-in_default-sign
operand-returns-in_default-sign t c level f u e = not_operand c.args.line.now level c.args.ahead (operand_no_sign 8 c.args.line.now level c.args.ahead c.in-Symbol.sign c.in-Symbol.is (unsealed c.in_default-sign.in_default-sign-own.keys3)) e

pub operand-returns-in-Not : goal.operand-returns-in-Not
operand-returns-in-Not t c level f u e = complemented_done c.args.line.now level c.args.ahead e c.token_at-after.ensures c.formula-worked.result c.in-Not.is
    c.past_nots-nots.ensures c.formula-worked.ensures c.complemented.ensures

pub operand-returns-in-Call : goal.operand-returns-in-Call
operand-returns-in-Call t c level f u e = c.arguments.ensures f u
    (call_is c.args.line.now level c.args.ahead e c.token_at-after.ensures c.in-Call.is c.token_at-first.ensures)

pub operand-returns-in_default : goal.operand-returns-in_default
operand-returns-in_default t c level f u e = not_operand c.args.line.now level c.args.ahead (operand_other 8 c.args.line.now level c.args.ahead c.in_default.in_default-own.keys8) e
