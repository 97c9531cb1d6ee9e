-- The bytes of a run are those that `take_while` yields of what the line holds from its place on.
use mathlib.Core.Path.{◌≡◌, refl, sym, ap, ◌∙◌}
use borrow.Author.Rules.{rules}
use borrow.Author.Tests.{tests}
use mathlib.Core.Logic.{◌⊎◌, ⊎_elim}
use mathlib.Core.List.{List, []}
use native.Mathlib.Omega.{arith}
use Prim.Native.Nat.{ℕ, ◌+◌, ◌≤◌, ◌<◌}
use denote.Bor.{Bor}
use Rattle.std.specs.Prelude.{None, Option, Some}
use Rattle.std.specs.Option.{MatchOption, unwrap_or}
use Rattle.std.specs.List.{slice_range}
use lib.ListN.{length, drop, drop_of_length-le}
use Rattle.std.proofs.lemmas.Iterator.{YieldsList-from_slice}
use Rattle.std.proofs.lemmas.Iterator.Consumers.{count_from_yields_List}
use Rattle.std.proofs.lemmas.Iterator.Search.{YieldsList-from_take_while}
use Rattle.whole.specs.Bytes.{leading}
use Rattle.whole.proofs.Reading.{leading_while, part_from}
use Rattle.scanner.specs.Runs.{passes}
use Rattle.scanner.proofs.runs.run_end.Goals as goal

-- what a slice has from a place on; past its end nothing
from_there : (line : List ℕ) (i : ℕ) (r : Option (Bor (List ℕ))) (none : Bor (List ℕ)) → none.now ≡ []
    → MatchOption r ((length line < i) ⊎ (length line < length line))
    (λ x. (i ≤ length line) × (length line ≤ length line) × (x.now ≡ slice_range line i (length line)) × (length x.now + i ≡ length line))
    → (unwrap_or r none).now ≡ drop i line
from_there line i None none e h = e ∙ sym (drop_of_length-le line (⊎_elim (λ l. omega arith) (λ l. absurd (omega arith)) h))
from_there line i (Some x) none e h = h.2 ∙ part_from line i

pub returns : goal.returns
returns c =
    let rest : c.unwrap_or-rest.result.now ≡ drop c.args.at.0 c.args.line.now =
    ap (λ r. r.now) c.unwrap_or-rest.ensures ∙ from_there _ _ c.get.result _ refl c.get.ensures.lookup.0 in
    let test = passes c.args.run in
    let count = count_from_yields_List c.take_while.result _ c.count-count.ensures.ran
    (YieldsList-from_take_while _ test (YieldsList-from_slice c.unwrap_or-rest.result.now cc) c.take_while.ensures.closure c.take_while.ensures.done (λ x b q k. search (rules, tests))) in
    ap (λ n. c.args.at.0 + n) (count ∙ sym (ap length (leading_while test _)) ∙ ap (λ l. length (leading test l)) rest)
