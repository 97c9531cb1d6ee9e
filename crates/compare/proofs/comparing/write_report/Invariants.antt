use Rattle.compare.specs.Records.{report_of}
use Rattle.compare.proofs.Turning.{left_of, records_ahead, Standing}
use Rattle.compare.proofs.Written.{Written}
use Rattle.compare.proofs.comparing.write_report.Given as goal

abbrev pub invariant-loop-heads : goal.invariant-loop-heads
invariant-loop-heads l = Standing l.old l.new l.heads × Written (report_of l.old l.new) (records_ahead l.old l.new l.heads) l.initial.out l.out l.at

abbrev pub decreases-loop-heads : goal.decreases-loop-heads
decreases-loop-heads l = left_of l.old l.new l.heads.old l.heads.new
