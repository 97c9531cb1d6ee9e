-- A line number is named, or the statement does not read.
use mathlib.Core.List.{List}
use Prim.Native.Nat.{ℕ}
use Rattle.words.specs.declared.places.LineNumber.{LineNumber}
use Rattle.words.specs.declared.symbols.Scanned.{Scanned}
use Rattle.grammar.specs.Trees.{goto}
use Rattle.grammar.specs.Formulas.{after}
use Rattle.statements.specs.Statements.{Begun, bad, done}
use Rattle.statements.specs.Parts.{deepest}
use Rattle.statements.proofs.Findings.{numbered, unnumbered}
use Rattle.statements.proofs.reading.jump.Goals as goal

abbrev go : List ℕ → Scanned → LineNumber → Begun
go s t l = done (goto l) (after s t)

pub returns-in_err-number : goal.returns-in_err-number
returns-in_err-number c = unnumbered c.args.ahead.token (go c.args.line.now c.args.ahead) bad c.line_of.ensures c.in_err-number.was c.from_residual.ensures

pub returns : goal.returns
unfolding deepest
returns c = numbered c.args.ahead.token (go c.args.line.now c.args.ahead) bad c.line_of.ensures c.in_ok-number.was (rw c.token_after.ensures)
