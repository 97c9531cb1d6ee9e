-- The outcome's count, and the two that every run moves.
use Rattle.std.proofs.Common.{◌≡◌, refl}
use Rattle.records.specs.declared.reading.Outcome.{Outcome}
use Rattle.records.specs.declared.reading.Outcome.TheVariants.{Ended, Stopped, Out, Error}
use Rattle.tallies.specs.bridge.Counting.{counted_as, with_run}
use Rattle.tallies.specs.declared.counting.Tally.{Tally}
use Rattle.tallies.proofs.counting.Tally.count_run.Goals as goal

-- what an outcome's count leaves alone
runs_kept : (o : Outcome) (t : Tally) → (counted_as o t).runs ≡ t.runs
unfolding counted_as
runs_kept Ended t = refl
runs_kept Stopped t = refl
runs_kept Out t = refl
runs_kept (Error code) t = refl

steps_kept : (o : Outcome) (t : Tally) → (counted_as o t).steps ≡ t.steps
unfolding counted_as
steps_kept Ended t = refl
steps_kept Stopped t = refl
steps_kept Out t = refl
steps_kept (Error code) t = refl

pub returns : goal.returns
unfolding with_run
returns c = rw (c.one_more-self.ensures, c.more_steps-self.ensures, c.count_as.ensures, runs_kept c.args.run.outcome c.args.self.now, steps_kept c.args.run.outcome c.args.self.now)
