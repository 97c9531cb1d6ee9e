-- Each by the proof of its name.
use Rattle.larger.proofs.Calls.{more_space_same, box_more_space_same}
use Rattle.larger.proofs.holding.more_space_holds.Goals as goal

pub returns : goal.returns
returns c =
    record {
      more_space_same = more_space_same;
      box_more_space_same = box_more_space_same;
    }
