-- It is led by what stands at the place.
use Rattle.statements.specs.Statements.{begun_at}
use Rattle.statements.proofs.reading.statement_at.Goals as goal

pub returns : goal.returns
unfolding begun_at
returns c = rw (← c.lead_at.ensures) c.statement_led.ensures
