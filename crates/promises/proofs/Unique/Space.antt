-- The public functions of `space`.
use mathlib.Core.Path.{refl}
use Rattle.space.proofs as space
use Rattle.promises.specs.Calls.{Unique}
use Rattle.promises.proofs.Unique.{same, pair}

pub fits : Unique space.fits.Kinds.ps space.fits.Kinds.r space.fits.Reads.Pre space.fits.Reads.Post
fits κs a p z z' ws ws' e e' = (same e e', refl)

pub copy_in : Unique space.copy_in.Kinds.ps space.copy_in.Kinds.r space.copy_in.Reads.Pre space.copy_in.Reads.Post
copy_in κs a p z z' ws ws' e e' = (refl, pair (same e e') refl)

pub move_bytes : Unique space.move_bytes.Kinds.ps space.move_bytes.Kinds.r space.move_bytes.Reads.Pre space.move_bytes.Reads.Post
move_bytes κs a p z z' ws ws' e e' = (refl, pair (same e e') refl)

pub clear_from : Unique space.clear_from.Kinds.ps space.clear_from.Kinds.r space.clear_from.Reads.Pre space.clear_from.Reads.Post
clear_from κs a p z z' ws ws' e e' = (refl, pair (same e e') refl)
