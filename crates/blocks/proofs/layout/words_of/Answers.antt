-- The loop keeps that the words passed are those of the bytes passed.
use mathlib.Core.Path.{refl}
use native.Mathlib.Omega.{arith}
use lib.ListN.{length-set}
use Rattle.blocks.specs.Blocks.{words_from}
use Rattle.blocks.proofs.Words.{word_read}
use Rattle.blocks.proofs.layout.words_of.Goals as goal

pub loop-i-init : goal.loop-i-init
unfolding words_from
loop-i-init c = record { long = refl; read = refl }

pub loop-i-preserved : goal.loop-i-preserved
loop-i-preserved c = record {
  long = simp length-set c.loop-i.invariant.long;
  read = word_read c.loop-i.word-items c.args.bytes.now c.loop-i.i c.from_le_bytes.result (omega (arith, c.loop-i.invariant.long)) (omega (arith, c.from_le_bytes.ensures)) c.loop-i.invariant.read;
}
