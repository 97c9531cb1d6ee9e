-- The public functions of `statements`.
use mathlib.Core.Path.{refl}
use Rattle.statements.proofs as statements
use Rattle.promises.specs.Calls.{Unique}
use Rattle.promises.proofs.Unique.{same}

pub statement_at : Unique statements.statement_at.Kinds.ps statements.statement_at.Kinds.r statements.statement_at.Reads.Pre statements.statement_at.Reads.Post
statement_at κs a p z z' ws ws' e e' = (same e e', refl)

pub statement_led : Unique statements.statement_led.Kinds.ps statements.statement_led.Kinds.r statements.statement_led.Reads.Pre statements.statement_led.Reads.Post
statement_led κs a p z z' ws ws' e e' = (same e e', refl)

pub lead_at : Unique statements.lead_at.Kinds.ps statements.lead_at.Kinds.r statements.lead_at.Reads.Pre statements.lead_at.Reads.Post
lead_at κs a p z z' ws ws' e e' = (same e e', refl)

pub own : Unique statements.reading.StatementRead.own.Kinds.ps statements.reading.StatementRead.own.Kinds.r statements.reading.StatementRead.own.Reads.Pre statements.reading.StatementRead.own.Reads.Post
own κs a p z z' ws ws' e e' = (same e e', refl)
