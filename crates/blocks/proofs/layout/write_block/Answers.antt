-- Five copies that fill the block.
use mathlib.Core.Path.{◌∙◌}
use borrow.Author.Rules.{rules}
use Rattle.blocks.specs.Blocks.{block_of, Long}
use Rattle.blocks.proofs.Parts.{laid_out}
use Rattle.blocks.proofs.layout.write_block.Goals as goal

pub returns : goal.returns
unfolding block_of
returns c = let tables = c.args.tables.now in
    let long : Long tables = record { number_names = search rules; words = search rules; string_names = search rules; lengths = search rules } in (
      rw (c.copy_in-5.ensures, c.copy_in-4.ensures, c.copy_in-3.ensures, c.copy_in-2.ensures, c.copy_in.ensures)
          (laid_out c.args.block.now tables.numbers.names c.bytes_of-word_bytes.result tables.strings.names tables.strings.lengths _ (search rules)
          long.number_names (search rules) long.string_names long.lengths (search rules)
          ∙ rw (c.bytes_of-word_bytes.ensures, c.count_byte.ensures, c.count_byte-2.ensures)),
      long,
    )
