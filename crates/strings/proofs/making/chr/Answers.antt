-- One byte, of the code.
use Rattle.strings.proofs.Calls.{told_no, told_yes, chr_refused, chr_made}
use Rattle.strings.proofs.making.chr.Goals as goal

pub returns-then-not-in_range : goal.returns-then-not-in_range
returns-then-not-in_range c ahead = chr_refused c.args.space.now c.args.used.0 c.args.given c.requires ahead c.first_word-code.ensures
    (told_no c.in_range.ensures c.if-not-in_range.true-raw)

pub returns : goal.returns
returns c ahead = chr_made c.args.space.now c.args.used.0 c.args.given c.requires ahead c.first_word-code.ensures
    (told_yes c.in_range.ensures c.if-not-in_range.false-raw) (c.filled.ensures ahead)
