-- The bytes lie in the room, so they are laid over it.
use mathlib.Core.Path.{◌∙◌}
use Rattle.space.proofs.Frames.{copied_lies}
use Rattle.compare.proofs.records.put.Goals as goal

pub returns-clause-out_after : goal.returns-clause-out_after
returns-clause-out_after c = c.copy_in.ensures ∙ copied_lies _ _ _ c.requires
