-- The table and the pairs are those of the index (`made`); what is refused leaves it as it was.
use Rattle.std.proofs.lemmas.Result.{err_from_is_err_and}
use mathlib.Core.Path.{◌≡◌, refl, sym, ◌∙◌}
use mathlib.Core.List.{List}
use Prim.Native.Nat.{ℕ}
use native.Mathlib.Omega.{arith}
use borrow.Author.Rules.{rules}
use lib.ListN.{length}
use Rattle.index.specs.Pairs.{pairs_of}
use Rattle.index.specs.Index.{blank}
use Rattle.index.proofs.Walking.{told_count, told_full}
use Rattle.index.proofs.Made.{Made, short, front_long, table, few, within, pairs_long}
use Rattle.index.proofs.Indexing.{load_refused, pairs_refused, index_made}
use Rattle.index.proofs.making.index_of.Goals as goal

pub returns-in_err-load : goal.returns-in_err-load
returns-in_err-load c =
    let p = err_from_is_err_and c.from_residual.result c.from_residual.ensures.1 in
    let kept = load_refused _ c.args.index.now (sym c.load.ensures ∙ c.in_err-load.was) in
    record { value = rw (p.1, p.2) kept.0; index_after = kept.1 }

pub make_rows-requires : goal.make_rows-requires
make_rows-requires c = (sym c.load.ensures ∙ c.in_ok-load.was, refl)

pub note_lines-requires : goal.note_lines-requires
unfolding blank
note_lines-requires c = (c.make_rows.ensures, refl)

pub overflow_mul-end : goal.overflow_mul-end
overflow_mul-end c =
    let text : List ℕ = c.args.text.now in
    let made : Made text c.make_rows.new.rows c.note_lines.new.pairs c.in-Some.count c.used_words-used.result = record {
      tabled = c.make_rows.ensures;
      keeps = told_count _ (pairs_of text) c.in-Some.is c.note_lines.ensures;
      long = search (rules, c.make_rows.auto);
      uses = c.used_words-used.ensures;
    } in
    omega (arith, few made)

pub slice_bounds-rows-end : goal.slice_bounds-rows-end
slice_bounds-rows-end c =
    let text : List ℕ = c.args.text.now in
    let made : Made text c.make_rows.new.rows c.note_lines.new.pairs c.in-Some.count c.used_words-used.result = record {
      tabled = c.make_rows.ensures;
      keeps = told_count _ (pairs_of text) c.in-Some.is c.note_lines.ensures;
      long = search (rules, c.make_rows.auto);
      uses = c.used_words-used.ensures;
    } in
    short made

pub slice_bounds-lay_out-end-2 : goal.slice_bounds-lay_out-end-2
slice_bounds-lay_out-end-2 c =
    let text : List ℕ = c.args.text.now in
    let made : Made text c.make_rows.new.rows c.note_lines.new.pairs c.in-Some.count c.used_words-used.result = record {
      tabled = c.make_rows.ensures;
      keeps = told_count _ (pairs_of text) c.in-Some.is c.note_lines.ensures;
      long = search (rules, c.make_rows.auto);
      uses = c.used_words-used.ensures;
    } in
    sym (front_long made)

pub overflow_cast-count : goal.overflow_cast-count
overflow_cast-count c =
    let text : List ℕ = c.args.text.now in
    let made : Made text c.make_rows.new.rows c.note_lines.new.pairs c.in-Some.count c.used_words-used.result = record {
      tabled = c.make_rows.ensures;
      keeps = told_count _ (pairs_of text) c.in-Some.is c.note_lines.ensures;
      long = search (rules, c.make_rows.auto);
      uses = c.used_words-used.ensures;
    } in
    omega (arith, few made)

pub slice_bounds-pairs-end : goal.slice_bounds-pairs-end
slice_bounds-pairs-end c =
    let text : List ℕ = c.args.text.now in
    let made : Made text c.make_rows.new.rows c.note_lines.new.pairs c.in-Some.count c.used_words-used.result = record {
      tabled = c.make_rows.ensures;
      keeps = told_count _ (pairs_of text) c.in-Some.is c.note_lines.ensures;
      long = search (rules, c.make_rows.auto);
      uses = c.used_words-used.ensures;
    } in
    within made

pub slice_bounds-lay_out-end-3 : goal.slice_bounds-lay_out-end-3
slice_bounds-lay_out-end-3 c =
    let text : List ℕ = c.args.text.now in
    let made : Made text c.make_rows.new.rows c.note_lines.new.pairs c.in-Some.count c.used_words-used.result = record {
      tabled = c.make_rows.ensures;
      keeps = told_count _ (pairs_of text) c.in-Some.is c.note_lines.ensures;
      long = search (rules, c.make_rows.auto);
      uses = c.used_words-used.ensures;
    } in
    sym (pairs_long made)

pub lay_out-requires : goal.lay_out-requires
lay_out-requires c =
    let text : List ℕ = c.args.text.now in
    let made : Made text c.make_rows.new.rows c.note_lines.new.pairs c.in-Some.count c.used_words-used.result = record {
      tabled = c.make_rows.ensures;
      keeps = told_count _ (pairs_of text) c.in-Some.is c.note_lines.ensures;
      long = search (rules, c.make_rows.auto);
      uses = c.used_words-used.ensures;
    } in
    let i : length c.args.index.now ≡ 5122 = search rules in
    (i, omega (arith, front_long made, short made, made.long), omega (arith, pairs_long made, few made))

pub returns-in_default : goal.returns-in_default
returns-in_default c =
    let kept = pairs_refused _ c.args.index.now (sym c.load.ensures ∙ c.in_ok-load.was) (told_full _ _ c.in_default.is c.note_lines.ensures) in
    record { value = kept.0; index_after = kept.1 }

pub returns : goal.returns
returns c =
    let text : List ℕ = c.args.text.now in
    let made : Made text c.make_rows.new.rows c.note_lines.new.pairs c.in-Some.count c.used_words-used.result = record {
      tabled = c.make_rows.ensures;
      keeps = told_count _ (pairs_of text) c.in-Some.is c.note_lines.ensures;
      long = search (rules, c.make_rows.auto);
      uses = c.used_words-used.ensures;
    } in
    let all = index_made text c.args.index.now (sym c.load.ensures ∙ c.in_ok-load.was) made.keeps (table made) c.lay_out.ensures in
    record { value = all.0; index_after = all.1 }
