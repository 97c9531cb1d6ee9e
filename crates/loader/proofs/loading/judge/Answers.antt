-- Each test of `judged` comes out as the code's own.
use mathlib.Core.Path.{sym, ◌∙◌}
use borrow.Author.Tests.{lt-ltb, le-ltb}
use lib.ListN.{length}
use Rattle.loader.specs.Loading.{is_plain, judged}
use Rattle.words.specs.Places.{longest_line}
use Rattle.loader.proofs.Plain.{some_foreign, none_foreign}
use Rattle.loader.proofs.loading.judge.Goals as goal

pub returns-then-line-gt-LONGEST_LINE : goal.returns-then-line-gt-LONGEST_LINE
unfolding judged
returns-then-line-gt-LONGEST_LINE c = rw (lt-ltb longest_line (length c.args.line.now) c.if-line-gt-LONGEST_LINE.true)

pub returns-in-Some : goal.returns-in-Some
unfolding judged
returns-in-Some c = let f = some_foreign is_plain c.args.line.now (sym c.first_foreign.ensures ∙ c.in-Some.is) in
    rw (le-ltb longest_line (length c.args.line.now) c.if-line-gt-LONGEST_LINE.false, f.0, f.1)

pub returns-in_default-number_of : goal.returns-in_default-number_of
unfolding judged
returns-in_default-number_of c = let f = none_foreign is_plain c.args.line.now (sym c.first_foreign.ensures ∙ c.in_default.is) in
    rw (le-ltb longest_line (length c.args.line.now) c.if-line-gt-LONGEST_LINE.false, f, sym c.number_of.ensures ∙ c.in_default-number_of.is)

pub returns : goal.returns
unfolding judged
returns c = let f = none_foreign is_plain c.args.line.now (sym c.first_foreign.ensures ∙ c.in_default.is) in
    rw (le-ltb longest_line (length c.args.line.now) c.if-line-gt-LONGEST_LINE.false, f, sym c.number_of.ensures ∙ c.in-Some-number_of.is)
    c.numbered.ensures
