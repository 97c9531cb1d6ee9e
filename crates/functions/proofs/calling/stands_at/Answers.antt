-- The parts are the same exactly when the one begins with the other.
use mathlib.Core.Path.{◌≡◌, ◌∙◌}
use Prim.Native.Nat.{◌+◌, ◌-◌}
use native.Mathlib.Omega.{arith}
use lib.ListN.{take, drop}
use Rattle.variables.proofs.Bytewise.{part_length}
use Rattle.functions.proofs.Finding.{starts_same}
use Rattle.functions.proofs.calling.stands_at.Goals as goal

pub returns : goal.returns
returns c =
    let s = c.args.space.now in
    let n : c.args.x.0 + c.args.len - c.args.x.0 ≡ c.args.len = omega arith in
    let m : c.args.y.0 + c.args.len - c.args.y.0 ≡ c.args.len = omega arith in
    rw (n, m) at c.eq.ensures
    ∙ starts_same (take c.args.len (drop c.args.y.0 s)) (drop c.args.x.0 s) c.args.len (part_length s c.args.y.0 c.args.len c.requires.1)
