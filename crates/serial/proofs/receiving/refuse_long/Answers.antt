-- Cleared from its first byte on, the buffer is all zeros.
use Rattle.serial.proofs.Steps.{cleared_whole}
use Rattle.serial.proofs.receiving.refuse_long.Goals as goal

pub returns : goal.returns
returns c = rw (c.clear_from.ensures, cleared_whole)
