use mathlib.Core.Path.{refl}
use Rattle.dialogue.proofs.outputting.show.Goals as goal

pub print_string-requires : goal.print_string-requires
print_string-requires c = let e = rw c.in-Ok-Text.is at c.in-Ok-Text.field-0-is in (c.requires.0, rw (c.in-Ok-Text.is, e) at c.requires.1)

pub returns-in-Err : goal.returns-in-Err
returns-in-Err c = rw c.in-Err.is (refl, refl)

pub returns-in-Ok-Whole : goal.returns-in-Ok-Whole
returns-in-Ok-Whole c = let e = rw c.in-Ok-Whole.is at c.in-Ok-Whole.field-0-is in
    rw (c.in-Ok-Whole.is, e) (rw c.print_number.ensures.0 at c.shown_or_full.ensures, c.print_number.ensures.1)

pub returns-in-Ok-Text : goal.returns-in-Ok-Text
returns-in-Ok-Text c = let e = rw c.in-Ok-Text.is at c.in-Ok-Text.field-0-is in
    rw (c.in-Ok-Text.is, e) (rw c.print_string.ensures.0 at c.shown_or_full-in-Ok-Text.ensures, c.print_string.ensures.1)
