use Rattle.std.proofs.Common.{sym, ◌∙◌}
use Rattle.variables.proofs.Lookups.{sum-sum_of}
use Rattle.variables.proofs.tables.offset_of.Goals as goal

pub returns : goal.returns
returns c = rw (sym c.min.ensures) (c.total.ensures ∙ sum-sum_of _)
