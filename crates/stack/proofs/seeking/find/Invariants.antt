-- What is found, or what is left finds it.
use Rattle.stack.proofs.Seeks.{Good}
use Rattle.machine.specs.bridge.Wanted.{found_in}
use Rattle.stack.proofs.seeking.find.Given as goal

abbrev pub invariant-loop-seek : goal.invariant-loop-seek
invariant-loop-seek l = Good l.stack l.sought (found_in l.sought l.stack l.depth) l.seek

abbrev pub decreases-loop-seek : goal.decreases-loop-seek
decreases-loop-seek l = l.seek.left
