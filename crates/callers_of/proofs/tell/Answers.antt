-- What is written are the first bytes of the room.
use Rattle.callers_of.proofs.Telling.{front_callers}
use Rattle.callers_of.proofs.tell.Goals as goal

pub returns : goal.returns
returns g c = rw (front_callers _ _ c.answer_of-count.ensures.upper_bound.1 c.answer_of-count.ensures.out_after) at c.write.ensures
