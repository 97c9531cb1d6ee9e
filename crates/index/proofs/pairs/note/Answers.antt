-- A statement that names no line, or one that was named before, leaves the pairs as they are (`noted_seen`); else there is one more.
use native.Mathlib.Omega.{arith}
use lib.ListN.{length-set}
use Rattle.index.proofs.Noting.{noted_seen, noted_full, noted_more}
use Rattle.index.proofs.pairs.note.Goals as goal

pub returns-in_default : goal.returns-in_default
returns-in_default c = record { within = c.requires.0; noted_as = λ done seen starts h. rw c.in_default.is h }

pub returns-then-is_noted : goal.returns-then-is_noted
returns-then-is_noted c = record { within = c.requires.0; noted_as = λ done seen starts h. noted_seen c.args.own done seen starts h c.in-Some.is c.is_noted.ensures c.if-is_noted.true }

pub returns-then-count-ge-MOST_PAIRS : goal.returns-then-count-ge-MOST_PAIRS
returns-then-count-ge-MOST_PAIRS c = record { within = tt; noted_as = λ done seen starts h. noted_full c.args.own done seen starts h c.in-Some.is c.is_noted.ensures c.if-is_noted.false c.if-count-ge-MOST_PAIRS.true }

pub bounds-pairs-count-2 : goal.bounds-pairs-count-2
bounds-pairs-count-2 c = simp length-set (omega (arith, c.if-count-ge-MOST_PAIRS.false, c.requires.1))

pub returns : goal.returns
returns c = record { within = omega (arith, c.if-count-ge-MOST_PAIRS.false); noted_as = λ done seen starts h. noted_more c.args.own done seen starts h c.in-Some.is c.is_noted.ensures c.if-is_noted.false c.if-count-ge-MOST_PAIRS.false }
