-- Both cases are clauses of the definition.
use Rattle.statements.proofs.reading.statement_led.Goals as goal

pub returns : goal.returns
returns c = rw c.in_ok-lead.was c.by_word.ensures
