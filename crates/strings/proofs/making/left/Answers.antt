-- A part of the first text, from its front on.
use Rattle.strings.proofs.Calls.{told_no, told_yes, left_refused, left_made}
use Rattle.strings.proofs.making.left.Goals as goal

pub returns-then-not-in_range : goal.returns-then-not-in_range
returns-then-not-in_range c ahead = left_refused c.args.space.now c.args.used.0 c.args.given c.requires ahead c.second_word-n.ensures
    (told_no c.in_range.ensures c.if-not-in_range.true-raw)

pub returns : goal.returns
returns c ahead = left_made c.args.space.now c.args.used.0 c.args.given c.requires ahead c.second_word-n.ensures
    (told_yes c.in_range.ensures c.if-not-in_range.false-raw) (c.part.ensures ahead)
