-- The public functions of `blocks`.
use mathlib.Core.Path.{refl}
use Rattle.blocks.proofs as blocks
use Rattle.promises.specs.Calls.{Unique}
use Rattle.promises.proofs.Unique.{same, pair}

pub tables_in : Unique blocks.tables_in.Kinds.ps blocks.tables_in.Kinds.r blocks.tables_in.Reads.Pre blocks.tables_in.Reads.Post
tables_in κs a p z z' ws ws' e e' = (same e e', refl)

pub write_block : Unique blocks.write_block.Kinds.ps blocks.write_block.Kinds.r blocks.write_block.Reads.Pre blocks.write_block.Reads.Post
write_block κs a p z z' ws ws' e e' = (refl, pair (same e.0 e'.0) refl)
