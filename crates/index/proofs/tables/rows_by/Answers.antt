-- A text's own index begins with the table of its lines (`front_tabled`).
use mathlib.Core.Path.{sym, ◌∙◌}
use native.Mathlib.Omega.{arith}
use Rattle.index.proofs.Owning.{front_long, front_tabled}
use Rattle.index.proofs.tables.rows_by.Goals as goal

pub slice_bounds-put_words-end : goal.slice_bounds-put_words-end
slice_bounds-put_words-end c = sym (front_long c.args.text.now c.args.index.now (sym c.is_index_of.ensures ∙ c.if-is_index_of.true))

pub put_words-requires : goal.put_words-requires
put_words-requires c = let l = front_long c.args.text.now c.args.index.now (sym c.is_index_of.ensures ∙ c.if-is_index_of.true) in
    omega (arith, l, c.requires.1)

pub returns-then-is_index_of : goal.returns-then-is_index_of
returns-then-is_index_of c = front_tabled c.args.text.now c.args.index.now (sym c.is_index_of.ensures ∙ c.if-is_index_of.true)
    c.args.rows.now c.requires.1 c.put_words.ensures
