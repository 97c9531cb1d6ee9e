-- The text is copied where it fits; what stands from the quotation on in the line is as long as it says.
use Prim.Native.Nat.{◌+◌, ◌-◌}
use mathlib.Core.Path.{◌≡◌}
use native.Mathlib.Omega.{arith}
use Rattle.space.proofs.Bounds.{within, past}
use Rattle.variables.proofs.Bytewise.{part_length}
use Rattle.formulas.proofs.Making.{refused_made, copied_made}
use Rattle.formulas.proofs.operands.quoted.Goals as goal

pub returns-then-not-has_room : goal.returns-then-not-has_room
returns-then-not-has_room c = refused_made c.args.space.now c.args.used.0 c.args.ahead _ (part_length c.args.line.now c.args.quotation.at c.args.quotation.len c.requires.0) c.requires.1.1
    (past c.has_room.ensures c.if-not-has_room.true-raw)

pub returns : goal.returns
returns c = let z : c.args.quotation.at + c.args.quotation.len - c.args.quotation.at ≡ c.args.quotation.len = omega arith in
    copied_made c.args.space.now c.args.used.0 c.args.ahead _ (part_length c.args.line.now c.args.quotation.at c.args.quotation.len c.requires.0) (omega (arith, c.requires))
    (within c.has_room.ensures c.if-not-has_room.false-raw)
    (rw z at c.copy_in.ensures)
