-- The blanks at the end are those that `take_while` yields from the last byte back.
use mathlib.Core.Path.{◌≡◌, ◌∙◌}
use mathlib.Core.List.{reverse}
use native.Mathlib.Omega.{arith}
use borrow.Author.Rules.{rules}
use borrow.Author.Tests.{tests}
use Rattle.std.specs.List.{suffix_len}
use Rattle.std.proofs.lemmas.Iterator.Adapters.{YieldsList-from_rev_slice}
use Rattle.std.proofs.lemmas.Iterator.Consumers.{count_from_yields_List}
use Rattle.std.proofs.lemmas.Iterator.Search.{YieldsList-from_take_while}
use Rattle.std.proofs.lemmas.List.Folds.{length-prefix_len}
use Rattle.whole.specs.Bytes.{is}
use Rattle.items.proofs.Cutting.{cut_inside, cut_rest}
use Rattle.items.proofs.reading.cut_length.Goals as goal

pub returns : goal.returns
returns c =
    let s = c.args.bytes.now in
    let count : c.count-blanks.result ≡ suffix_len (is " ") s =
    count_from_yields_List c.take_while.result _ c.count-blanks.ensures.ran
    (YieldsList-from_take_while _ (is " ") (YieldsList-from_rev_slice s cc) c.take_while.ensures.closure c.take_while.ensures.done (λ x b q k. search (rules, tests)))
    ∙ length-prefix_len (is " ") (reverse s) in
    omega (arith, cut_inside s, cut_rest s)
