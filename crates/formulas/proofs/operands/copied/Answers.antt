-- A string variable lies below the live bytes, at the sum of the lengths before it.
use native.Mathlib.Omega.{arith}
use Rattle.space.proofs.Bounds.{within, past}
use Rattle.formulas.proofs.Making.{empty_made, variable_refused, variable_made}
use Rattle.formulas.proofs.operands.copied.Goals as goal

pub returns-then-not-has_room : goal.returns-then-not-has_room
returns-then-not-has_room c = rw c.in-Some.is
    (variable_refused c.args.strings.now.lengths c.args.space.now c.args.used.0 c.args.ahead c.in-Some.i c.from-len.ensures
    c.requires.1.0 c.requires.1.1 (past c.has_room.ensures c.if-not-has_room.true-raw))

pub returns-in-None : goal.returns-in-None
returns-in-None c = rw c.in-None.is (empty_made _ _ _ c.requires.1.1)

pub returns-else-not-has_room : goal.returns-else-not-has_room
returns-else-not-has_room c = rw c.in-Some.is
    (variable_made c.args.strings.now.lengths c.args.space.now c.args.used.0 c.args.ahead c.in-Some.i c.from-len.ensures
    c.requires.1.0 c.requires.1.1 (omega (arith, c.from-len.ensures)) (rw c.in-Some.is at c.requires.0)
    (within c.has_room.ensures c.if-not-has_room.false-raw)
    (rw c.offset_of-from.ensures at c.move_bytes.ensures))
