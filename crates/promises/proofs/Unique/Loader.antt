-- The public functions of `loader`.
use mathlib.Core.Path.{refl}
use Rattle.loader.proofs as loader
use Rattle.promises.specs.Calls.{Unique}
use Rattle.promises.proofs.Unique.{same}

pub extent_at : Unique loader.extent_at.Kinds.ps loader.extent_at.Kinds.r loader.extent_at.Reads.Pre loader.extent_at.Reads.Post
extent_at κs a p z z' ws ws' e e' = (same e e', refl)

pub line_at : Unique loader.line_at.Kinds.ps loader.line_at.Kinds.r loader.line_at.Reads.Pre loader.line_at.Reads.Post
line_at κs a p z z' ws ws' e e' = (same e e', refl)

pub find_line : Unique loader.find_line.Kinds.ps loader.find_line.Kinds.r loader.find_line.Reads.Pre loader.find_line.Reads.Post
find_line κs a p z z' ws ws' e e' = (same e e', refl)

pub load : Unique loader.load.Kinds.ps loader.load.Kinds.r loader.load.Reads.Pre loader.load.Reads.Post
load κs a p z z' ws ws' e e' = (same e e', refl)

pub refusal_number : Unique loader.refusal_number.Kinds.ps loader.refusal_number.Kinds.r loader.refusal_number.Reads.Pre loader.refusal_number.Reads.Post
refusal_number κs a p z z' ws ws' e e' = (same e e', refl)
