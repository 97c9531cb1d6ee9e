use mathlib.Core.Path.{◌≡◌}
use Prim.Native.Nat.{◌+◌}
use lib.ListN.{length}
use Rattle.compare.specs.Records.{report_of}
use Rattle.compare.proofs.Turning.{left_of, records_ahead, Standing}
use Rattle.compare.proofs.comparing.report_fits.Given as goal

abbrev pub invariant-loop-heads : goal.invariant-loop-heads
invariant-loop-heads l = Standing l.old l.new l.heads × (l.room + length (records_ahead l.old l.new l.heads) ≡ length (report_of l.old l.new) + l.left)

abbrev pub decreases-loop-heads : goal.decreases-loop-heads
decreases-loop-heads l = left_of l.old l.new l.heads.old l.heads.new
