-- The item is closed where the run between the quotes ends before the line does.
use mathlib.Core.Path.{◌≡◌}
use Prim.Native.Nat.{◌+◌, ◌-◌}
use native.Mathlib.Omega.{arith}
use borrow.Author.Tests.{lt-ltb, le-ltb}
use lib.ListN.{length, drop}
use Rattle.whole.specs.Bytes.{leading}
use Rattle.scanner.specs.Runs.{passes}
use Rattle.scanner.specs.declared.runs.Run.TheVariants.{Unquoted}
use Rattle.items.specs.Items.{quoted_item}
use Rattle.items.proofs.reading.quoted_at.Goals as goal

pub returns-then-line-close : goal.returns-then-line-close
unfolding quoted_item
returns-then-line-close c = rw (← c.run_end-close.ensures, le-ltb c.run_end-close.result.0 (length c.args.line.now) c.if-line-close.true)

pub returns : goal.returns
unfolding quoted_item
returns c = let n : c.run_end-close.result.0 - (c.args.at.0 + 1) ≡ length (leading (passes Unquoted) (drop (c.args.at.0 + 1) c.args.line.now)) = omega (arith, c.run_end-close.ensures) in
    rw (← c.run_end-close.ensures, lt-ltb c.run_end-close.result.0 (length c.args.line.now) c.if-line-close.false, ← c.run_end-end.ensures, ← n) c.ended.ensures
