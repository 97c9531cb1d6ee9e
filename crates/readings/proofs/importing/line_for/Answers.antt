-- The line of the reading that its four bytes make.
use mathlib.Core.Path.{sym, subst}
use lib.Dec.{T}
use Rattle.readings.specs.Lines.{line_of}
use Rattle.readings.specs.bridge.Groups.{is_number, Holds, line_for}
use Rattle.readings.specs.declared.values.Reading.{Reading}
use Rattle.readings.proofs.Groups.{reading_number}
use Rattle.readings.proofs.importing.line_for.Goals as goal

pub line_of-requires : goal.line_of-requires
line_of-requires c = subst (λ (x : Reading). T (is_number x)) (sym c.reading_of.ensures.value) (reading_number _ _ _ _)

pub returns : goal.returns
unfolding line_for
returns c = subst (λ (x : Reading). Holds c.line_of.result (line_of x)) c.reading_of.ensures.value c.line_of.ensures
