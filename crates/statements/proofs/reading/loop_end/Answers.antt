-- A name may follow.
use Rattle.std.specs.Prelude.{Some}
use mathlib.Core.Path.{ap, ◌∙◌}
use mathlib.Core.List.{List}
use Prim.Native.Nat.{ℕ}
use Rattle.words.specs.declared.names.Name.{Name}
use Rattle.words.specs.declared.symbols.Scanned.{Scanned}
use Rattle.grammar.specs.Trees.{next, next_of}
use Rattle.grammar.specs.Formulas.{after}
use Rattle.statements.specs.Statements.{Begun, done, variable_of}
use Rattle.statements.specs.Parts.{deepest}
use Rattle.statements.proofs.Findings.{named, unnamed}
use Rattle.statements.proofs.reading.loop_end.Goals as goal

abbrev go : List ℕ → Scanned → Name → Begun
go s t v = done (next_of (variable_of s v)) (after s t)

pub returns : goal.returns
unfolding deepest
returns c = named c.args.ahead.token (go c.args.line.now c.args.ahead) (done next c.args.ahead) c.name_at.ensures c.in-Some.is
    (ap Some c.formed.ensures ∙ rw (c.is_of.ensures, c.token_after.ensures))

pub returns-in_default : goal.returns-in_default
unfolding deepest
returns-in_default c = unnamed c.args.ahead.token (go c.args.line.now c.args.ahead) (done next c.args.ahead) c.name_at.ensures c.in_default.is (ap Some c.plain.ensures)
