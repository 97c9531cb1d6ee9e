use mathlib.Core.Path.{refl}
use Rattle.dialogue.proofs.outputting.print_end.Goals as goal

pub returns-then-quiet : goal.returns-then-quiet
returns-then-quiet c = rw c.if-quiet.true (λ tables. rw c.goes_on.ensures, refl)

pub returns : goal.returns
returns c = rw c.if-quiet.false (
  λ tables. rw (c.goes_on-2.ensures, c.with_printer.ensures tables, ← c.write.ensures.0, c.in-Some.is) refl,
  c.write.ensures.1,
)
