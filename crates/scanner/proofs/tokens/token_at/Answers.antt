-- Blanks are skipped; then each arm is a clause of `begun`.
use Rattle.scanner.proofs.Beginnings.{ends_here, begun_here}
use Rattle.scanner.proofs.tokens.token_at.Goals as goal

pub returns-then-line-at : goal.returns-then-line-at
returns-then-line-at c = rw (ends_here c.args.line.now c.args.at _ c.run_end-at.ensures c.if-line-at.true) c.up_to.ensures

pub returns-in-Letter : goal.returns-in-Letter
returns-in-Letter c = rw (begun_here c.args.line.now c.args.at _ c.run_end-at.ensures _ c.if-line-at.false c.class_of.ensures, c.in-Letter.is) c.word.ensures

pub returns-in-Digit : goal.returns-in-Digit
returns-in-Digit c = rw (begun_here c.args.line.now c.args.at _ c.run_end-at.ensures _ c.if-line-at.false c.class_of.ensures, c.in-Digit.is) c.number.ensures

pub returns-in-Quote : goal.returns-in-Quote
returns-in-Quote c = rw (begun_here c.args.line.now c.args.at _ c.run_end-at.ensures _ c.if-line-at.false c.class_of.ensures, c.in-Quote.is) c.text.ensures

pub returns-in-Sign : goal.returns-in-Sign
returns-in-Sign c = rw (begun_here c.args.line.now c.args.at _ c.run_end-at.ensures _ c.if-line-at.false c.class_of.ensures, c.in-Sign.is) c.sign.ensures

pub returns-in-Other : goal.returns-in-Other
returns-in-Other c = rw (begun_here c.args.line.now c.args.at _ c.run_end-at.ensures _ c.if-line-at.false c.class_of.ensures, c.in-Other.is) c.other.ensures

pub returns-in-Blank : goal.returns-in-Blank
returns-in-Blank c = rw (begun_here c.args.line.now c.args.at _ c.run_end-at.ensures _ c.if-line-at.false c.class_of.ensures, c.in-Blank.is) c.unreadable.ensures
