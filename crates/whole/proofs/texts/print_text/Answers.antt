-- Rests on: STR$'s text has at most 6 bytes, so that there is room for a blank.
use native.Mathlib.Omega.{arith}
use Rattle.whole.proofs.Numerals.{held_put, shown_length}
use Rattle.whole.proofs.texts.print_text.Goals as goal

pub returns : goal.returns
returns c = let h = shown_length c.args.word in
    rw (c.put.ensures, c.str_text.ensures) (held_put _ 32 (omega arith))
