-- A part of the first text, from so many bytes before its end on.
use Prim.Native.Nat.{◌-◌}
use Rattle.strings.proofs.Calls.{told_no, told_yes, right_refused, right_made}
use Rattle.strings.proofs.making.right.Goals as goal

pub returns-then-not-in_range : goal.returns-then-not-in_range
returns-then-not-in_range c ahead = right_refused c.args.space.now c.args.used.0 c.args.given c.requires ahead c.second_word-n.ensures
    (told_no c.in_range.ensures c.if-not-in_range.true-raw)

pub returns : goal.returns
returns c ahead = right_made c.args.space.now c.args.used.0 c.args.given c.requires ahead c.second_word-n.ensures
    (c.first_length-len.result - c.min-kept.result)
    (told_yes c.in_range.ensures c.if-not-in_range.false-raw) (rw (c.min-kept.ensures, c.first_length-len.ensures)) (c.part.ensures ahead)
