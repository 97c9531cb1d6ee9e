-- The public function of `items`.
use mathlib.Core.Path.{refl}
use Rattle.items.proofs as items
use Rattle.promises.specs.Calls.{Unique}
use Rattle.promises.proofs.Unique.{same}

pub item_at : Unique items.item_at.Kinds.ps items.item_at.Kinds.r items.item_at.Reads.Pre items.item_at.Reads.Post
item_at κs a p z z' ws ws' e e' = (same e e', refl)
