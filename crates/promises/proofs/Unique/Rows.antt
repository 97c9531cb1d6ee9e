-- The public functions of `rows`.
use mathlib.Core.Path.{refl}
use Rattle.rows.proofs as rows
use Rattle.promises.specs.Calls.{Unique}
use Rattle.promises.proofs.Unique.{same}

pub count_of : Unique rows.count_of.Kinds.ps rows.count_of.Kinds.r rows.count_of.Reads.Pre rows.count_of.Reads.Post
count_of κs a p z z' ws ws' e e' = (same e e', refl)

pub has_row : Unique rows.has_row.Kinds.ps rows.has_row.Kinds.r rows.has_row.Reads.Pre rows.has_row.Reads.Post
has_row κs a p z z' ws ws' e e' = (same e e', refl)

pub span_in : Unique rows.span_in.Kinds.ps rows.span_in.Kinds.r rows.span_in.Reads.Pre rows.span_in.Reads.Post
span_in κs a p z z' ws ws' e e' = (same e e', refl)

pub number_in : Unique rows.number_in.Kinds.ps rows.number_in.Kinds.r rows.number_in.Reads.Pre rows.number_in.Reads.Post
number_in κs a p z z' ws ws' e e' = (same e e', refl)

pub place_in : Unique rows.place_in.Kinds.ps rows.place_in.Kinds.r rows.place_in.Reads.Pre rows.place_in.Reads.Post
place_in κs a p z z' ws ws' e e' = (same e e', refl)

pub verdict_in : Unique rows.verdict_in.Kinds.ps rows.verdict_in.Kinds.r rows.verdict_in.Reads.Pre rows.verdict_in.Reads.Post
verdict_in κs a p z z' ws ws' e e' = (same e e', refl)
