-- By its kind; the other name is told by its entry.
use mathlib.Core.Path.{ap}
use mathlib.Core.Bool.{not}
use Rattle.words.specs.Names.{name_bytes, telling, telling_of}
use Rattle.words.specs.Spellings.{same_bytes}
use Rattle.words.proofs.Tellings.{entry_alone}
use Rattle.control.proofs.skipping.is_other.Goals as goal

pub returns-in-Whole : goal.returns-in-Whole
returns-in-Whole c = rw (c.in-Whole.is, c.is_told.ensures, c.telling_of-telling.ensures)
    (ap (λ x. not (same_bytes x (telling (telling_of (name_bytes c.args.own.now c.args.name))))) (entry_alone _))
