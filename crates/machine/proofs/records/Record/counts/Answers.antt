use Rattle.machine.proofs.records.Record.counts.Goals as goal

pub returns : goal.returns
returns c = rw c.over_number.ensures
