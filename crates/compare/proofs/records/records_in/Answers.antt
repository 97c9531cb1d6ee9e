-- A turn that says nothing has no bytes.
use mathlib.Core.Path.{sym, ap, ◌∙◌}
use Rattle.whole.specs.Texts.{held}
use Rattle.compare.proofs.Laid.{records_none, records_one}
use Rattle.compare.proofs.records.records_in.Goals as goal

pub returns-in-None : goal.returns-in-None
returns-in-None c = rw c.in-None.is (c.empty.ensures ∙ ap held (sym records_none))

pub returns-in-Some : goal.returns-in-Some
returns-in-Some c = rw c.in-Some.is (c.record_of.ensures ∙ ap held (sym (records_one _)))
