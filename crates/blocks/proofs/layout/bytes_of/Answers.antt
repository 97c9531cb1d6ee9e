-- The loop keeps that the bytes passed are those of the words passed.
use mathlib.Core.Path.{◌≡◌, refl, ap, ◌∙◌}
use Prim.Native.Nat.{◌/◌, ◌%◌}
use native.Mathlib.Omega.{arith}
use lib.ListN.{get_or, length-set}
use Rattle.blocks.specs.Blocks.{word_bytes}
use Rattle.blocks.proofs.Words.{word_written, all_written}
use Rattle.blocks.proofs.layout.bytes_of.Goals as goal

pub loop-i-init : goal.loop-i-init
unfolding word_bytes
loop-i-init c = record { long = refl; written = refl }

pub loop-i-preserved : goal.loop-i-preserved
loop-i-preserved c =
    let word = get_or c.args.words.now c.loop-i.i 0 in
    let high : word / 256 % 256 ≡ word / 256 = omega (arith, c.type_inv.words c.loop-i.i) in record {
      long = simp length-set c.loop-i.invariant.long;
      written = word_written c.loop-i.bytes c.args.words.now c.loop-i.i _ _ (omega (arith, c.loop-i.invariant.long)) (omega arith)
          (ap (λ l. get_or l 0 0) c.to_le_bytes.ensures) (ap (λ l. get_or l 1 0) c.to_le_bytes.ensures ∙ high) c.loop-i.invariant.written;
    }

pub returns : goal.returns
returns c = all_written _ _ (omega arith) c.loop-i.invariant.long c.requires c.loop-i.invariant.written
