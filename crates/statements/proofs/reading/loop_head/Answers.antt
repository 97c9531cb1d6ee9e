-- A name, an equals sign and the first formula; `limit` reads on.
use mathlib.Core.Path.{refl, sym, ◌∙◌}
use mathlib.Core.List.{List}
use Prim.Native.Nat.{ℕ}
use Rattle.words.specs.declared.names.Name.{Name}
use Rattle.words.specs.declared.symbols.Scanned.{Scanned}
use Rattle.grammar.specs.Formulas.{after, formula_of}
use Rattle.statements.specs.Statements.{Begun, bad, variable_of, for_at}
use Rattle.statements.proofs.Findings.{passed, failed, named, unnamed}
use Rattle.statements.proofs.Readings.{not_bounded, bound_same}
use Rattle.statements.proofs.reading.loop_head.Goals as goal

abbrev go : List ℕ → Scanned → Name → Begun
go s t v = for_at s (variable_of s v) (after s t)

pub returns-then-not-sign_stands : goal.returns-then-not-sign_stands
unfolding for_at
returns-then-not-sign_stands c = named c.args.ahead.token (go c.args.line.now c.args.ahead) bad c.name_at.ensures c.in_ok-name.was
    (rw (← c.token_after-equals.ensures, failed c.sign_stands.ensures c.if-not-sign_stands.true-raw))

pub returns-in_err-start : goal.returns-in_err-start
unfolding for_at
returns-in_err-start c =
    let from = formula_of c.args.line.now (after c.args.line.now c.token_after-equals.result) in
    let none = not_bounded from 0 c.is_of.result c.bounded.ensures c.in_err-start.was in
    named c.args.ahead.token (go c.args.line.now c.args.ahead) bad c.name_at.ensures c.in_ok-name.was
    (rw (c.from_residual-in_err-start.ensures, ← c.token_after-equals.ensures, passed c.sign_stands.ensures c.if-not-sign_stands.false-raw, none))

pub returns : goal.returns
unfolding for_at
returns c =
    let from = formula_of c.args.line.now (after c.args.line.now c.token_after-equals.result) in
    named c.args.ahead.token (go c.args.line.now c.args.ahead) bad c.name_at.ensures c.in_ok-name.was
    (rw (← c.token_after-equals.ensures, passed c.sign_stands.ensures c.if-not-sign_stands.false-raw)
    (c.limit.ensures (variable_of c.args.line.now c.in_ok-name.name) from
    (bound_same from refl c.is_of.ensures (sym c.in_ok-start.was ∙ c.bounded.ensures))))

pub returns-in_err-name : goal.returns-in_err-name
returns-in_err-name c = unnamed c.args.ahead.token (go c.args.line.now c.args.ahead) bad c.name_at.ensures c.in_err-name.was c.from_residual.ensures
