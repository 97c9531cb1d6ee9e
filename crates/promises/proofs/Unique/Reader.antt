-- The public functions of `reader`.
use mathlib.Core.Path.{refl}
use Rattle.reader.proofs as reader
use Rattle.promises.specs.Calls.{Unique}
use Rattle.promises.proofs.Unique.{same}

pub else_of : Unique reader.else_of.Kinds.ps reader.else_of.Kinds.r reader.else_of.Reads.Pre reader.else_of.Reads.Post
else_of κs a p z z' ws ws' e e' = (same e e', refl)

pub next_statement : Unique reader.next_statement.Kinds.ps reader.next_statement.Kinds.r reader.next_statement.Reads.Pre reader.next_statement.Reads.Post
next_statement κs a p z z' ws ws' e e' = (same e e', refl)

pub judge : Unique reader.judge.Kinds.ps reader.judge.Kinds.r reader.judge.Reads.Pre reader.judge.Reads.Post
judge κs a p z z' ws ws' e e' = (same e e', refl)
