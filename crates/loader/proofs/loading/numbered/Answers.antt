-- Each test of `numbered` comes out as the code's own.
use native.Mathlib.Omega.{arith}
use borrow.Author.Tests.{lt-ltb, le-ltb, le-leb, lt-leb}
use Rattle.loader.specs.Loading.{numbered, most_lines}
use Rattle.loader.proofs.loading.numbered.Goals as goal

pub returns-then-number-floor : goal.returns-then-number-floor
unfolding numbered
returns-then-number-floor c = rw (lt-ltb c.args.number.0 c.args.floor c.if-number-floor.true)

pub returns-then-before-ge-MOST_LINES : goal.returns-then-before-ge-MOST_LINES
unfolding numbered
returns-then-before-ge-MOST_LINES c = rw (le-ltb c.args.number.0 c.args.floor c.if-number-floor.false, le-leb most_lines c.args.before (omega arith))

pub returns : goal.returns
unfolding numbered
returns c = rw (le-ltb c.args.number.0 c.args.floor c.if-number-floor.false, lt-leb most_lines c.args.before (omega arith))
