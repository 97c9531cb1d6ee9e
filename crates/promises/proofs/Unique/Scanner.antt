-- The public functions of `scanner`.
use mathlib.Core.Path.{refl, ap}
use Rattle.words.specs.Places.{place}
use Rattle.scanner.proofs as scanner
use Rattle.promises.specs.Calls.{Unique}
use Rattle.promises.proofs.Unique.{same}

pub token_at : Unique scanner.token_at.Kinds.ps scanner.token_at.Kinds.r scanner.token_at.Reads.Pre scanner.token_at.Reads.Post
token_at κs a p z z' ws ws' e e' = (same e e', refl)

pub run_end : Unique scanner.run_end.Kinds.ps scanner.run_end.Kinds.r scanner.run_end.Reads.Pre scanner.run_end.Reads.Post
run_end κs a p z z' ws ws' e e' = (ap place (same e e'), refl)
