-- Each by the proof of its name.
use Rattle.serial_promises.proofs.Cuttings.{receives_always, calls_receive, short_refused, short_untouched}
use Rattle.serial_promises.proofs.Boxes.{boxes_receive_always, boxes_receive, box_short_refused, box_short_untouched, box_buffers_stay_as_long}
use Rattle.serial_promises.proofs.holding.receipts_hold.Goals as goal

pub returns : goal.returns
returns c =
    record {
      receives_always = receives_always;
      calls_receive = calls_receive;
      short_refused = short_refused;
      short_untouched = short_untouched;
      boxes_receive_always = boxes_receive_always;
      boxes_receive = boxes_receive;
      box_short_refused = box_short_refused;
      box_short_untouched = box_short_untouched;
      box_buffers_stay_as_long = box_buffers_stay_as_long;
    }
