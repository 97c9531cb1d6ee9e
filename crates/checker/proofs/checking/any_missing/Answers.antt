-- The loop's invariant: from the place reached on the line reads, and what it names comes to what the whole line names.
use Rattle.std.specs.Prelude.{Option}
use Rattle.words.specs.declared.places.Place.{Place}
use mathlib.Core.Path.{◌≡◌, refl, sym, ◌∙◌}
use mathlib.Core.List.{List}
use Prim.Native.Nat.{ℕ}
use native.Mathlib.Omega.{arith}
use Rattle.loader.specs.Lines.{lines_of}
use Rattle.grammar.specs.Trees.{Part}
use Rattle.statements.specs.Parts.{statements_of}
use Rattle.reader.specs.Lines.{holds, judgement}
use Rattle.reader.specs.bridge.Walking.{Further}
use Rattle.reader.proofs.Visits.{further}
use Rattle.checker.specs.Check.{any_missing}
use Rattle.checker.proofs.Missing.{line_noticed, Later, noticed_here, noticed_later}
use Rattle.checker.proofs.checking.any_missing.Goals as goal

pub loop-read-init : goal.loop-read-init
loop-read-init c part e = line_noticed (lines_of c.args.text.now) c.args.line.now part e

pub returns-then-is_missing : goal.returns-then-is_missing
returns-then-is_missing c part e = noticed_here (lines_of c.args.text.now) c.args.line.now c.loop-read.at.0 (c.loop-read.invariant part e)
    c.statement_at-read.ensures c.named_by-names.ensures refl (sym c.is_missing.ensures ∙ c.if-is_missing.true)

pub returns-in_default : goal.returns-in_default
returns-in_default c part e =
    let line : List ℕ = c.args.line.now in
    let text : List ℕ = c.args.text.now in
    let rest : (f : Option Place) → c.next_statement.result ≡ f → (part : Part) → judgement line ≡ holds part → Later (lines_of text) line f (any_missing (lines_of text) (statements_of part)) = λ f₀ f part e. noticed_later (lines_of text) line c.loop-read.at.0 (c.loop-read.invariant part e)
    c.statement_at-read.ensures c.named_by-names.ensures
    (sym f ∙ c.next_statement.ensures) (sym c.is_missing.ensures ∙ c.if-is_missing.false) in
    rest _ c.in_default.is part e

pub loop-read-smaller : goal.loop-read-smaller
loop-read-smaller c =
    let line : List ℕ = c.args.line.now in
    let less : (f : Option Place) → c.next_statement.result ≡ f → Further line c.loop-read.at.0 f = λ f₀ f. further line c.loop-read.at.0 c.statement_at-read.ensures (sym f ∙ c.next_statement.ensures) in
    let l = less _ c.in-Some.is in omega (arith, l)

pub loop-read-preserved : goal.loop-read-preserved
loop-read-preserved c part e =
    let line : List ℕ = c.args.line.now in
    let text : List ℕ = c.args.text.now in
    let rest : (f : Option Place) → c.next_statement.result ≡ f → (part : Part) → judgement line ≡ holds part → Later (lines_of text) line f (any_missing (lines_of text) (statements_of part)) = λ f₀ f part e. noticed_later (lines_of text) line c.loop-read.at.0 (c.loop-read.invariant part e)
    c.statement_at-read.ensures c.named_by-names.ensures
    (sym f ∙ c.next_statement.ensures) (sym c.is_missing.ensures ∙ c.if-is_missing.false) in
    rest _ c.in-Some.is part e
