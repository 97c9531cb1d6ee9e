use mathlib.Core.Path.{◌≡◌}
use Rattle.loader.specs.Lines.{lines_of}
use Rattle.grammar.specs.Trees.{Part}
use Rattle.statements.specs.Parts.{statements_of}
use Rattle.statements.proofs.Parts.{weight_at}
use Rattle.reader.specs.Lines.{holds, judgement}
use Rattle.checker.specs.Check.{any_missing}
use Rattle.checker.proofs.Missing.{Noticed}
use Rattle.checker.proofs.checking.any_missing.Given as goal

abbrev pub invariant-loop-read : goal.invariant-loop-read
invariant-loop-read l = (part : Part) → judgement l.line ≡ holds part → Noticed (lines_of l.text) l.line l.at.0 (any_missing (lines_of l.text) (statements_of part))

abbrev pub decreases-loop-read : goal.decreases-loop-read
decreases-loop-read l = weight_at l.line l.at.0
