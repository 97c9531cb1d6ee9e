-- Rests on nothing: the empty text is zeros.
use mathlib.Core.Path.{refl}
use Rattle.whole.specs.Texts.{held}
use Rattle.whole.proofs.texts.Text.empty.Goals as goal

pub returns : goal.returns
unfolding held
returns c = refl
