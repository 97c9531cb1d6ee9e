-- What a text has room for lies in the buffer; of anything else nothing is written.
use mathlib.Core.Path.{sym}
use Prim.Native.Nat.{◌+◌, ◌≤◌}
use lib.ListN.{length}
use Rattle.space.proofs.Bounds.{within, past}
use Rattle.loader.specs.Loading.{longest_text}
use Rattle.serial.proofs.Steps.{placed_past, placed_lies}
use Rattle.serial.proofs.receiving.place_part.Goals as goal

pub returns-then-not-fits : goal.returns-then-not-fits
returns-then-not-fits c = sym (placed_past _ _ _ (past c.fits.ensures c.if-not-fits.true-raw))

pub returns : goal.returns
returns c =
    let roomy : c.args.count + length c.args.part.now ≤ longest_text = within c.fits.ensures c.if-not-fits.false-raw in
    rw c.copy_in.ensures (sym (placed_lies _ _ _ (roomy) c.requires))
