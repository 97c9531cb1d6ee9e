-- A part of the first text, from a place on.
use Rattle.strings.proofs.Calls.{told_no, told_yes, mid_refused, mid_refused_length, mid_made}
use Rattle.strings.proofs.making.mid.Goals as goal

pub returns-then-not-in_range : goal.returns-then-not-in_range
returns-then-not-in_range c ahead = mid_refused c.args.space.now c.args.used.0 c.args.given c.requires ahead c.second_word-n.ensures
    (told_no c.in_range.ensures c.if-not-in_range.true-raw)

pub returns-then-not-in_range-2 : goal.returns-then-not-in_range-2
returns-then-not-in_range-2 c ahead = mid_refused_length c.args.space.now c.args.used.0 c.args.given c.requires ahead c.second_word-n.ensures c.mid_length-most.ensures
    (told_yes c.in_range.ensures c.if-not-in_range.false-raw) (told_no c.in_range-2.ensures c.if-not-in_range-2.true-raw)

pub returns : goal.returns
returns c ahead = mid_made c.args.space.now c.args.used.0 c.args.given c.requires ahead c.second_word-n.ensures c.mid_length-most.ensures
    (told_yes c.in_range.ensures c.if-not-in_range.false-raw) (told_yes c.in_range-2.ensures c.if-not-in_range-2.false-raw)
    (c.part.ensures ahead)
