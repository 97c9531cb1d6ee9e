-- The record that the statement asks for is looked up, it is done, and the record that it leaves is written.
use Rattle.std.proofs.Common.{refl}
use Rattle.runner.proofs.Turning.{looked_below}
use Rattle.runner.proofs.lending.step.Goals as goal

pub act-acted-requires : goal.act-acted-requires
act-acted-requires c =
    let r = c.requires in
    (r.stands, (c.asks-asked.ensures, record { below = looked_below c.look_up-lookup.ensures; sound = r.sound; few = r.few; fed = r.fed }))

pub returns : goal.returns
returns c =
    record {
      asked = c.asks-asked.result;
      lookup = c.look_up-lookup.result;
      acted = c.act-acted.result;
      looks = c.look_up-lookup.ensures;
      acts = c.act-acted.ensures;
      goes = refl;
      left = c.put.ensures;
    }
