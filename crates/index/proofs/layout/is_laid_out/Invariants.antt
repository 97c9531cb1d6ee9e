use mathlib.Core.Path.{◌≡◌}
use lib.ListN.{drop}
use Rattle.words.specs.Spellings.{same_bytes}
use Rattle.index.specs.bridge.Laying.{laid_out}
use Rattle.index.proofs.layout.is_laid_out.Given as goal

abbrev pub invariant-loop-i : goal.invariant-loop-i
invariant-loop-i l = same_bytes (drop l.i (laid_out l.table l.count l.pairs)) (drop l.i l.index) ≡ same_bytes (laid_out l.table l.count l.pairs) l.index
