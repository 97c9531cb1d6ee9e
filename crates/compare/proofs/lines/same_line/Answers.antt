-- The bytes after the numbers, compared as slices.
use mathlib.Core.Path.{sym, ◌∙◌}
use Rattle.words.proofs.Comparing.{same_pointwise}
use Rattle.compare.proofs.lines.same_line.Goals as goal

pub returns : goal.returns
returns c = c.eq.ensures ∙ sym (same_pointwise _ _)
