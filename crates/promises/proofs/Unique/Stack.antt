-- The public functions of `stack`.
use mathlib.Core.Path.{refl}
use Rattle.stack.proofs as stack
use Rattle.promises.specs.Calls.{Unique}
use Rattle.promises.proofs.Unique.{same, pair}

pub blank : Unique stack.blank.Kinds.ps stack.blank.Kinds.r stack.blank.Reads.Pre stack.blank.Reads.Post
blank κs a p z z' ws ws' e e' = (same e e', refl)

pub is_too_long : Unique stack.is_too_long.Kinds.ps stack.is_too_long.Kinds.r stack.is_too_long.Reads.Pre stack.is_too_long.Reads.Post
is_too_long κs a p z z' ws ws' e e' = (same e e', refl)

-- ---- over the records

pub at : Unique stack.at.Kinds.ps stack.at.Kinds.r stack.at.Reads.Pre stack.at.Reads.Post
at κs a p z z' ws ws' e e' = (same e e', refl)

pub find : Unique stack.find.Kinds.ps stack.find.Kinds.r stack.find.Reads.Pre stack.find.Reads.Post
find κs a p z z' ws ws' e e' = (same e e', refl)

pub put : Unique stack.put.Kinds.ps stack.put.Kinds.r stack.put.Reads.Pre stack.put.Reads.Post
put κs a p z z' ws ws' e e' = (refl, pair (same e e') refl)

pub wipe : Unique stack.wipe.Kinds.ps stack.wipe.Kinds.r stack.wipe.Reads.Pre stack.wipe.Reads.Post
wipe κs a p z z' ws ws' e e' = (refl, pair (same e e') refl)
