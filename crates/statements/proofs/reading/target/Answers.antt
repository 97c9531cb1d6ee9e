-- A name must stand there.
use Rattle.std.specs.Prelude.{Some}
use mathlib.Core.Path.{ap, ◌∙◌}
use mathlib.Core.List.{List}
use Prim.Native.Nat.{ℕ}
use Rattle.words.specs.declared.names.Name.{Name}
use Rattle.words.specs.declared.symbols.Scanned.{Scanned}
use Rattle.grammar.specs.Trees.{line_input}
use Rattle.grammar.specs.Formulas.{after}
use Rattle.statements.specs.Statements.{Begun, bad, done, variable_of}
use Rattle.statements.specs.Parts.{deepest}
use Rattle.statements.proofs.Findings.{named, unnamed}
use Rattle.statements.proofs.reading.target.Goals as goal

abbrev go : List ℕ → List ℕ → Scanned → Name → Begun
go s text t v = done (line_input text (variable_of s v)) (after s t)

pub returns : goal.returns
unfolding deepest
returns c = λ text.
    named c.args.ahead.token (go c.args.line.now text c.args.ahead) bad c.name_at.ensures c.in_ok-name.was
    (ap Some c.formed.ensures ∙ rw (c.is_of.ensures, c.token_after.ensures))

pub returns-in_err-name : goal.returns-in_err-name
returns-in_err-name c = λ text.
    unnamed c.args.ahead.token (go c.args.line.now text c.args.ahead) bad c.name_at.ensures c.in_err-name.was c.from_residual.ensures
