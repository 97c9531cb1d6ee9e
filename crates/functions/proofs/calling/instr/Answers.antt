-- Of two arguments the texts are looked through from the first place on, of three from the place that the first one says.
use Rattle.strings.proofs.Calls.{told_no, told_yes}
use Rattle.functions.proofs.Calls.{two_made, three_refused, three_made}
use Rattle.functions.proofs.calling.instr.Goals as goal

pub returns-then-not-are_three : goal.returns-then-not-are_three
returns-then-not-are_three c ahead = two_made c.args.space.now c.args.used.0 c.args.given c.requires ahead c.first_length-first.ensures c.second_length-second.ensures
    (told_no c.are_three.ensures c.if-not-are_three.true-raw) c.place_of.ensures

pub returns-then-not-in_range : goal.returns-then-not-in_range
returns-then-not-in_range c ahead = three_refused c.args.space.now c.args.used.0 c.args.given c.requires ahead c.first_length-first.ensures c.second_length-second.ensures
    (told_yes c.are_three.ensures c.if-not-are_three.false-raw) c.first_word-start.ensures (told_no c.in_range.ensures c.if-not-in_range.true-raw)

pub returns : goal.returns
returns c ahead = three_made c.args.space.now c.args.used.0 c.args.given c.requires ahead c.first_length-first.ensures c.second_length-second.ensures
    (told_yes c.are_three.ensures c.if-not-are_three.false-raw) c.first_word-start.ensures
    (told_yes c.in_range.ensures c.if-not-in_range.false-raw) c.third_length-third.ensures c.place_of-2.ensures
