-- The loop keeps that the items that are left, with the depth and the types so far, make the answer. Its measure is their weight.
use Rattle.std.specs.Prelude.{Some}
use mathlib.Core.Path.{◌≡◌, sym, ap, ◌∙◌}
use mathlib.Core.Bool.{Bool, true, false, ◌&&◌}
use mathlib.Core.List.{List}
use Prim.Native.Nat.{ℕ, max}
use native.Mathlib.Omega.{arith}
use Rattle.words.specs.declared.symbols.Scanned.{Scanned}
use Rattle.grammar.specs.Tests.{ends_statement}
use Rattle.grammar.specs.Formulas.{formula_of}
use Rattle.expressions.specs.Types.{is_some, depth_of}
use Rattle.expressions.specs.bridge.Answers.{capped_depth}
use Rattle.statements.specs.Statements.{is_separator}
use Rattle.statements.specs.bridge.Answers.{known_sort}
use Rattle.skimming.proofs.Weights.{after_lighter}
use Rattle.skimming.proofs.Grammar.{formula_lighter}
use Rattle.expressions.proofs.Answering.{AnsweredWell, answered_well, not_read}
use Rattle.statements.proofs.Findings.{passed, failed}
use Rattle.statements.proofs.Printing.{separator_reads, print_begins, print_separator, print_ends, print_bad, print_last, print_more}
use Rattle.statements.proofs.reading.print.Goals as goal

pub loop-here-init : goal.loop-here-init
loop-here-init c = print_begins c.args.line.now c.args.ahead

pub loop-here-smaller-then-separates : goal.loop-here-smaller-then-separates
loop-here-smaller-then-separates c =
    let here : Scanned = c.loop-here.here in
    let separator : is_separator (here).token ≡ true = sym c.separates.ensures ∙ c.if-separates.true in
    let line : List ℕ = c.args.line.now in
    let lighter = after_lighter (line) (here) (separator_reads (here).token (separator)) in
    rw c.token_after-here.ensures (omega arith)

pub loop-here-preserved-then-separates : goal.loop-here-preserved-then-separates
loop-here-preserved-then-separates c =
    let here : Scanned = c.loop-here.here in
    let separator : is_separator (here).token ≡ true = sym c.separates.ensures ∙ c.if-separates.true in
    let typed : Bool = c.loop-here.typed in
    let depth : ℕ = c.loop-here.depth in
    let line : List ℕ = c.args.line.now in
    rw c.token_after-here.ensures (print_separator (line) (here) (depth) (typed) c.loop-here.invariant (separator))

pub returns-then-ends : goal.returns-then-ends
returns-then-ends c =
    let here : Scanned = c.loop-here.here in
    let no_separator : is_separator (here).token ≡ false = sym c.separates.ensures ∙ c.if-separates.false in
    let typed : Bool = c.loop-here.typed in
    let depth : ℕ = c.loop-here.depth in
    let line : List ℕ = c.args.line.now in
    ap Some c.formed.ensures
    ∙ sym (print_ends (line) (here) (depth) (typed) c.loop-here.invariant (no_separator) (sym c.ends.ensures ∙ c.if-ends.true))

pub returns-in_err-read : goal.returns-in_err-read
returns-in_err-read c =
    let here : Scanned = c.loop-here.here in
    let goes_on : ends_statement (here).token ≡ false = sym c.ends.ensures ∙ c.if-ends.false in
    let no_separator : is_separator (here).token ≡ false = sym c.separates.ensures ∙ c.if-separates.false in
    let typed : Bool = c.loop-here.typed in
    let depth : ℕ = c.loop-here.depth in
    let line : List ℕ = c.args.line.now in
    let none = not_read 9 (formula_of (line) (here)) c.formula_at.ensures c.in_err-read.was in
    c.from_residual.ensures ∙ sym (print_bad (line) (here) (depth) (typed) c.loop-here.invariant (no_separator) (goes_on) none)

pub returns-then-not-separates : goal.returns-then-not-separates
returns-then-not-separates c =
    let here : Scanned = c.loop-here.here in
    let line : List ℕ = c.args.line.now in
    let read : AnsweredWell (formula_of (line) (here)) c.in_ok-read.read.ahead c.in_ok-read.read.sort c.in_ok-read.read.deepest = answered_well (formula_of (line) (here)) c.formula_at.ensures c.in_ok-read.was in
    let typed : Bool = c.loop-here.typed in
    let some : (typed && c.is_some-typed.result) ≡ (typed && is_some (known_sort read.f)) = ap (λ x. typed && x) (c.is_some-typed.ensures ∙ ap is_some read.sort) in
    let depth : ℕ = c.loop-here.depth in
    let deep : c.max-depth.result ≡ max (depth) (capped_depth (depth_of read.f)) = c.max-depth.ensures ∙ ap (max (depth)) read.deep in
    let goes_on : ends_statement (here).token ≡ false = sym c.ends.ensures ∙ c.if-ends.false in
    let no_separator : is_separator (here).token ≡ false = sym c.separates.ensures ∙ c.if-separates.false in
    let last = failed c.separates-else-ends.ensures c.if-not-separates.true-raw in
    ap Some c.formed-then-not-separates.ensures
    ∙ sym (print_last (line) (here) (depth) (typed) c.loop-here.invariant (no_separator) (goes_on) (read).is (deep) (some) last)

pub loop-here-smaller : goal.loop-here-smaller
loop-here-smaller c =
    let here : Scanned = c.loop-here.here in
    let line : List ℕ = c.args.line.now in
    let read : AnsweredWell (formula_of (line) (here)) c.in_ok-read.read.ahead c.in_ok-read.read.sort c.in_ok-read.read.deepest = answered_well (formula_of (line) (here)) c.formula_at.ensures c.in_ok-read.was in
    let lighter = (formula_lighter (line) (here) (read).is).1 in
    omega arith

pub loop-here-preserved : goal.loop-here-preserved
loop-here-preserved c =
    let here : Scanned = c.loop-here.here in
    let line : List ℕ = c.args.line.now in
    let read : AnsweredWell (formula_of (line) (here)) c.in_ok-read.read.ahead c.in_ok-read.read.sort c.in_ok-read.read.deepest = answered_well (formula_of (line) (here)) c.formula_at.ensures c.in_ok-read.was in
    let typed : Bool = c.loop-here.typed in
    let some : (typed && c.is_some-typed.result) ≡ (typed && is_some (known_sort read.f)) = ap (λ x. typed && x) (c.is_some-typed.ensures ∙ ap is_some read.sort) in
    let depth : ℕ = c.loop-here.depth in
    let deep : c.max-depth.result ≡ max (depth) (capped_depth (depth_of read.f)) = c.max-depth.ensures ∙ ap (max (depth)) read.deep in
    let goes_on : ends_statement (here).token ≡ false = sym c.ends.ensures ∙ c.if-ends.false in
    let no_separator : is_separator (here).token ≡ false = sym c.separates.ensures ∙ c.if-separates.false in
    let more = passed c.separates-else-ends.ensures c.if-not-separates.false-raw in
    print_more (line) (here) (depth) (typed) c.loop-here.invariant (no_separator) (goes_on) (read).is (deep) (some) more
