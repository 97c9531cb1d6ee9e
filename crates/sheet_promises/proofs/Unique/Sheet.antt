-- The public functions of `sheet`.
use mathlib.Core.Path.{refl}
use Rattle.sheet.proofs as sheet
use Rattle.sheet_promises.specs.Calls.{Unique}
use Rattle.sheet_promises.proofs.Unique.{same}

pub begin : Unique sheet.begin.Kinds.ps sheet.begin.Kinds.r sheet.begin.Reads.Pre sheet.begin.Reads.Post
begin κs a p z z' ws ws' e e' = (same e e', refl)

pub take : Unique sheet.take.Kinds.ps sheet.take.Kinds.r sheet.take.Reads.Pre sheet.take.Reads.Post
take κs a p z z' ws ws' e e' = (same e e', refl)

pub finish : Unique sheet.finish.Kinds.ps sheet.finish.Kinds.r sheet.finish.Reads.Pre sheet.finish.Reads.Post
finish κs a p z z' ws ws' e e' = (same e e', refl)
