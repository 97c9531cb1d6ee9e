-- The words are compared with the table and the pairs that the index would be laid out of (`made`).
use Rattle.std.specs.Prelude.{Ok}
use mathlib.Core.Path.{◌≡◌, refl, sym, ◌∙◌}
use mathlib.Core.List.{List}
use Prim.Native.Nat.{ℕ}
use native.Mathlib.Omega.{arith}
use borrow.Author.Rules.{rules}
use Rattle.loader.specs.Loading.{load_of}
use Rattle.index.specs.Pairs.{pairs_of}
use Rattle.index.specs.Index.{blank}
use Rattle.index.proofs.Walking.{told_count, told_full}
use Rattle.index.proofs.Made.{Made, short, front_long, table, few, within, pairs_long}
use Rattle.index.proofs.Indexing.{load_none, pairs_none, laid_same}
use Rattle.index.proofs.Owning.{other_length}
use Rattle.index.proofs.making.is_index_of.Goals as goal

pub returns-then-index-ne-WORDS : goal.returns-then-index-ne-WORDS
returns-then-index-ne-WORDS c = other_length _ _ c.if-index-ne-WORDS.true

pub returns-in_default : goal.returns-in_default
returns-in_default c = load_none _ _ (sym c.load.ensures ∙ c.in_default.is)

pub make_rows-requires : goal.make_rows-requires
make_rows-requires c =
    let fine : load_of c.args.text.now ≡ Ok tt = sym c.load.ensures ∙ c.in-Ok.is in
    (fine, refl)

pub note_lines-requires : goal.note_lines-requires
unfolding blank
note_lines-requires c = (c.make_rows.ensures, refl)

pub overflow_mul-end : goal.overflow_mul-end
overflow_mul-end c =
    let text : List ℕ = c.args.text.now in
    let made : Made text c.make_rows.new.rows c.note_lines.new.pairs c.in-Some.count c.used_words-used.result = record {
      tabled = c.make_rows.ensures;
      keeps = told_count _ (pairs_of text) c.in-Some.is c.note_lines.ensures;
      long = search (rules, c.make_rows.auto);
      uses = c.used_words-used.ensures;
    } in
    omega (arith, few (made))

pub slice_bounds-rows-end : goal.slice_bounds-rows-end
slice_bounds-rows-end c =
    let text : List ℕ = c.args.text.now in
    let made : Made text c.make_rows.new.rows c.note_lines.new.pairs c.in-Some.count c.used_words-used.result = record {
      tabled = c.make_rows.ensures;
      keeps = told_count _ (pairs_of text) c.in-Some.is c.note_lines.ensures;
      long = search (rules, c.make_rows.auto);
      uses = c.used_words-used.ensures;
    } in
    short (made)

pub slice_bounds-is_laid_out-end : goal.slice_bounds-is_laid_out-end
slice_bounds-is_laid_out-end c =
    let text : List ℕ = c.args.text.now in
    let made : Made text c.make_rows.new.rows c.note_lines.new.pairs c.in-Some.count c.used_words-used.result = record {
      tabled = c.make_rows.ensures;
      keeps = told_count _ (pairs_of text) c.in-Some.is c.note_lines.ensures;
      long = search (rules, c.make_rows.auto);
      uses = c.used_words-used.ensures;
    } in
    sym (front_long (made))

pub overflow_cast-count : goal.overflow_cast-count
overflow_cast-count c =
    let text : List ℕ = c.args.text.now in
    let made : Made text c.make_rows.new.rows c.note_lines.new.pairs c.in-Some.count c.used_words-used.result = record {
      tabled = c.make_rows.ensures;
      keeps = told_count _ (pairs_of text) c.in-Some.is c.note_lines.ensures;
      long = search (rules, c.make_rows.auto);
      uses = c.used_words-used.ensures;
    } in
    omega (arith, few (made))

pub slice_bounds-pairs-end : goal.slice_bounds-pairs-end
slice_bounds-pairs-end c =
    let text : List ℕ = c.args.text.now in
    let made : Made text c.make_rows.new.rows c.note_lines.new.pairs c.in-Some.count c.used_words-used.result = record {
      tabled = c.make_rows.ensures;
      keeps = told_count _ (pairs_of text) c.in-Some.is c.note_lines.ensures;
      long = search (rules, c.make_rows.auto);
      uses = c.used_words-used.ensures;
    } in
    within (made)

pub slice_bounds-is_laid_out-end-2 : goal.slice_bounds-is_laid_out-end-2
slice_bounds-is_laid_out-end-2 c =
    let text : List ℕ = c.args.text.now in
    let made : Made text c.make_rows.new.rows c.note_lines.new.pairs c.in-Some.count c.used_words-used.result = record {
      tabled = c.make_rows.ensures;
      keeps = told_count _ (pairs_of text) c.in-Some.is c.note_lines.ensures;
      long = search (rules, c.make_rows.auto);
      uses = c.used_words-used.ensures;
    } in
    sym (pairs_long (made))

pub is_laid_out-requires : goal.is_laid_out-requires
is_laid_out-requires c =
    let text : List ℕ = c.args.text.now in
    let made : Made text c.make_rows.new.rows c.note_lines.new.pairs c.in-Some.count c.used_words-used.result = record {
      tabled = c.make_rows.ensures;
      keeps = told_count _ (pairs_of text) c.in-Some.is c.note_lines.ensures;
      long = search (rules, c.make_rows.auto);
      uses = c.used_words-used.ensures;
    } in
    (c.if-index-ne-WORDS.false, omega (arith, front_long (made), short (made), (made).long), omega (arith, pairs_long (made), few (made)))

pub returns-in_default-note_lines : goal.returns-in_default-note_lines
returns-in_default-note_lines c =
    let fine : load_of c.args.text.now ≡ Ok tt = sym c.load.ensures ∙ c.in-Ok.is in
    pairs_none _ _ (fine) (told_full _ _ c.in_default-note_lines.is c.note_lines.ensures)

pub returns : goal.returns
returns c =
    let text : List ℕ = c.args.text.now in
    let made : Made text c.make_rows.new.rows c.note_lines.new.pairs c.in-Some.count c.used_words-used.result = record {
      tabled = c.make_rows.ensures;
      keeps = told_count _ (pairs_of text) c.in-Some.is c.note_lines.ensures;
      long = search (rules, c.make_rows.auto);
      uses = c.used_words-used.ensures;
    } in
    let fine : load_of c.args.text.now ≡ Ok tt = sym c.load.ensures ∙ c.in-Ok.is in
    c.is_laid_out.ensures ∙ laid_same (text) c.args.index.now (fine) (made).keeps (table (made))
