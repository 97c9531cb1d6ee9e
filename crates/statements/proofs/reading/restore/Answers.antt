-- A line number may follow: then it is answered as a jump is.
use Rattle.std.specs.Prelude.{Some}
use mathlib.Core.Path.{refl, sym, ap, ◌∙◌}
use mathlib.Core.List.{List}
use Prim.Native.Nat.{ℕ}
use Rattle.words.specs.declared.places.LineNumber.{LineNumber}
use Rattle.words.specs.declared.symbols.Scanned.{Scanned}
use Rattle.grammar.specs.Trees.{goto, restore, restore_to}
use Rattle.grammar.specs.Formulas.{after}
use Rattle.statements.specs.Statements.{Begun, bad, done}
use Rattle.statements.specs.Parts.{deepest}
use Rattle.statements.proofs.Findings.{numbered, unnumbered}
use Rattle.statements.proofs.reading.restore.Goals as goal

abbrev go : List ℕ → Scanned → LineNumber → Begun
go s t l = done (restore_to l) (after s t)

pub returns-in-None : goal.returns-in-None
unfolding deepest
returns-in-None c = unnumbered c.args.ahead.token (go c.args.line.now c.args.ahead) (done restore c.args.ahead) c.line_of.ensures c.in-None.is (ap Some c.plain.ensures)

pub returns-in-Some : goal.returns-in-Some
unfolding deepest
returns-in-Some c = numbered c.args.ahead.token (go c.args.line.now c.args.ahead) (done restore c.args.ahead) c.line_of.ensures c.in-Some.is
    (c.jump.ensures ∙ sym (numbered c.args.ahead.token (λ l. done (goto l) (after c.args.line.now c.args.ahead)) bad c.line_of.ensures c.in-Some.is refl))
