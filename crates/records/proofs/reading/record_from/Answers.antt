-- A number of at most 255 is a byte.
use Rattle.std.proofs.Common.{arith, sym, ◌∙◌}
use Rattle.records.proofs.Figures.{figure_within}
use Rattle.records.proofs.reading.record_from.Goals as goal

pub overflow_cast-code : goal.overflow_cast-code
overflow_cast-code c = omega (arith, figure_within _ _ _ (sym c.figure_of.ensures ∙ c.in_ok-code.was))
