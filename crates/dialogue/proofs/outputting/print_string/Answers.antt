use Prim.Native.Nat.{◌+◌, ◌-◌}
use mathlib.Core.Path.{◌≡◌, ap, ◌∙◌}
use native.Mathlib.Omega.{arith}
use lib.ListN.{length, take, drop}
use Rattle.space.specs.Moves.{copied}
use Rattle.machine.specs.bridge.Holding.{printed_as}
use Rattle.dialogue.proofs.outputting.print_string.Goals as goal

pub returns : goal.returns
returns c = let n : c.args.from.0 + c.args.len - c.args.from.0 ≡ c.args.len = omega arith in
    let e = ap (λ k. take k (drop c.args.from.0 c.args.space.now)) n in
    (c.write.ensures.0 ∙ ap (printed_as c.args.printer (length c.args.room.now)) e, c.write.ensures.1 ∙ ap (copied c.args.room.now c.args.printer.written) e)
