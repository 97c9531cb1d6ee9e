use Rattle.machine.proofs.records.Record.calls.Goals as goal

pub returns : goal.returns
returns c = rw c.over_number.ensures
