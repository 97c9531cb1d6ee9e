-- Each by the proof of its name.
use Rattle.bounds.proofs.Bounds.{bounds_answer_always, steps_bounded, bounded_never_out, report_kept}
use Rattle.bounds.proofs.holding.bounds_hold.Goals as goal

pub returns : goal.returns
returns c =
    record {
      bounds_answer_always = bounds_answer_always;
      steps_bounded = steps_bounded;
      bounded_never_out = bounded_never_out;
      report_kept = report_kept;
    }
