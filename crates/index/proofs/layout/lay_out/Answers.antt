-- The number of pairs and the pairs after it are laid one after the other.
use native.Mathlib.Omega.{arith}
use Rattle.index.proofs.Laying.{filled, counted_long, all_long, all_laid}
use Rattle.index.proofs.layout.lay_out.Goals as goal

pub put_words-requires-2 : goal.put_words-requires-2
put_words-requires-2 c = let l = counted_long c.args.index.now c.args.table.now c.args.pairs.now c.args.count c.requires.0 c.requires.1 c.requires.2 (filled _ (c.fill.ensures.after (λ y e. e))) c.put_words.ensures in
    omega (arith, l, c.requires.2)

pub shape_of-index : goal.shape_of-index
shape_of-index c = all_long c.args.index.now c.args.table.now c.args.pairs.now c.args.count c.requires.0 c.requires.1 c.requires.2 (filled _ (c.fill.ensures.after (λ y e. e))) c.put_words.ensures
    c.put_words-2.ensures

pub returns : goal.returns
returns c = all_laid c.args.index.now c.args.table.now c.args.pairs.now c.args.count c.requires.0 c.requires.1 c.requires.2 (filled _ (c.fill.ensures.after (λ y e. e))) c.put_words.ensures
    c.put_words-2.ensures
