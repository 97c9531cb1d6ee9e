-- Each by the proof of its name.
use Rattle.sheet_promises.proofs.Totals.{calls_total, totals_always}
use Rattle.sheet_promises.proofs.holding.totals_hold.Goals as goal

pub returns : goal.returns
returns c =
    record {
      calls_total = calls_total;
      totals_always = totals_always;
    }
