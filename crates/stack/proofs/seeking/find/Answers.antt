-- The search begins with all of the depth, and each record that is looked at leaves fewer.
use Rattle.std.proofs.Common.{refl}
use Rattle.stack.proofs.Seeks.{start, looked}
use Rattle.stack.proofs.seeking.find.Goals as goal

pub loop-seek-init : goal.loop-seek-init
loop-seek-init c = rw c.seek_from-seek.ensures (start _ _ _ _ refl)

pub loop-seek-preserved : goal.loop-seek-preserved
loop-seek-preserved c =
    rw (c.look-seek.ensures, c.at-entry.ensures) (looked _ _ _ _ c.loop-seek-test.true c.loop-seek.invariant).0

pub loop-seek-smaller : goal.loop-seek-smaller
loop-seek-smaller c =
    rw (c.look-seek.ensures, c.at-entry.ensures) (looked _ _ _ _ c.loop-seek-test.true c.loop-seek.invariant).1
