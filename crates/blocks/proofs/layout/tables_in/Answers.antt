-- Each part of the tables from its place in the block.
use Rattle.blocks.proofs.layout.tables_in.Goals as goal

pub returns : goal.returns
returns c = rw (
  c.part_at.ensures,
  c.words_at.ensures,
  c.part_at-2.ensures,
  c.part_at-3.ensures,
  c.from.ensures,
  c.from-2.ensures,
)
