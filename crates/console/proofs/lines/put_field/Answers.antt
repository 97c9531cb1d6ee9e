-- A number of 64 bits has at most twenty digits.
use Rattle.std.proofs.Common.{◌<◌, ◌^◌, suc, arith}
use Rattle.whole.specs.Texts.{with_bytes}
use Rattle.console.proofs.lines.put_field.Goals as goal

pub returns : goal.returns
unfolding with_bytes
returns c =
    let few : c.args.value < 10 ^ suc 19 = omega (arith, c.ranges.value.fits) in
    rw (c.put_numeral.ensures 19 few, c.put.ensures)
