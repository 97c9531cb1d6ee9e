use mathlib.Core.Path.{◌≡◌}
use mathlib.Core.List.{List, []}
use Prim.Native.Nat.{◌≤◌}
use lib.ListN.{length}
use Rattle.grammar.specs.Trees.{Part}
use Rattle.statements.specs.Parts.{statements_of}
use Rattle.statements.proofs.Parts.{weight_at}
use Rattle.reader.specs.Lines.{holds, judgement}
use Rattle.index.specs.Pairs.{Pair, named_by}
use Rattle.index.specs.Index.{most_pairs}
use Rattle.index.specs.bridge.Noting.{pair_room, Held}
use Rattle.index.proofs.Walking.{Noting}
use Rattle.index.proofs.pairs.note_line.Given as goal

abbrev pub invariant-loop-count : goal.invariant-loop-count
invariant-loop-count l = (l.count ≤ most_pairs)
    × (length l.pairs ≡ pair_room)
    × ((part : Part) (done : List Pair) → judgement l.line ≡ holds part → Held l.initial.pairs l.from done
    → Noting l.line l.own l.pairs l.at.0 l.count l.from done (named_by [] (statements_of part)))

abbrev pub decreases-loop-count : goal.decreases-loop-count
decreases-loop-count l = weight_at l.line l.at.0
