-- PRINT's items without their bound: every bound above what is left to read gives the same.
use mathlib.Core.Path.{◌≡◌, refl, ap}
use mathlib.Core.List.{List, []}
use Prim.Native.Nat.{ℕ, zero, suc, ◌<◌}
use native.Mathlib.Omega.{arith}
use Rattle.words.specs.declared.symbols.Scanned.{Scanned}
use Rattle.words.specs.declared.symbols.Sign.TheVariants.{Comma, Semicolon}
use Rattle.words.proofs.Choices.{by_test}
use Rattle.grammar.specs.Tests.{choose, is_symbol, ends_statement}
use Rattle.grammar.specs.Trees.{Formula, comma, semicolon, shown}
use Rattle.grammar.specs.Formulas.{Reading, bad, good, after, enough, formula_of}
use Rattle.statements.specs.Statements.{Items, items, with_item, is_separator, after_shown, items_at}
use Rattle.statements.specs.bridge.Answers.{items_of}
use Rattle.skimming.specs.bridge.Remaining.{weight}
use Rattle.skimming.proofs.Weights.{symbol_reads, after_lighter, weight-enough}
use Rattle.skimming.proofs.Grammar.{formula_lighter}

-- ---- the items of a PRINT

shown_same : (x : Reading) (go go' : Scanned → Items) → ((f : Formula) (u : Scanned) → x ≡ good f u → go u ≡ go' u)
    → after_shown x go ≡ after_shown x go'
shown_same bad go go' h = refl
shown_same (good f u) go go' h =
    by_test (is_separator u.token) (λ e. rw e (ap (with_item (shown f)) (h f u refl))) (λ e. rw e)

items_same : (m n : ℕ) (s : List ℕ) (t : Scanned) → weight s t < m → weight s t < n → items_at m s t ≡ items_at n s t
unfolding items_at
items_same zero n s t h k = absurd (omega arith)
items_same (suc m) zero s t h k = absurd (omega arith)
items_same (suc m) (suc n) s t h k =
    by_test (is_symbol Comma t.token)
    (λ e.
    let w = after_lighter s t (symbol_reads Comma t.token e) in
    rw e (ap (with_item comma) (items_same m n s (after s t) (omega arith) (omega arith))))
    λ e. rw e
    (by_test (is_symbol Semicolon t.token)
    (λ f.
    let w = after_lighter s t (symbol_reads Semicolon t.token f) in
    rw f (ap (with_item semicolon) (items_same m n s (after s t) (omega arith) (omega arith))))
    λ f. rw f
    (by_test (ends_statement t.token) (λ g. rw g) λ g. rw g
    (shown_same (formula_of s t) (λ u. items_at m s u) (λ u. items_at n s u)
    (λ x u is. let w = formula_lighter s t is in items_same m n s u (omega arith) (omega arith)))))

-- so one turn leads to the same bound again
pub turn : (s : List ℕ) (t : Scanned) → items_at (enough s) s t ≡ items_at (suc (enough s)) s t
turn s t = let w = weight-enough s t in items_same (enough s) (suc (enough s)) s t (omega arith) (omega arith)

pub items_unrolled : (s : List ℕ) (t : Scanned)
    → items_of s t
    ≡ choose (is_symbol Comma t.token) (λ _. with_item comma (items_of s (after s t))) λ _.
    choose (is_symbol Semicolon t.token) (λ _. with_item semicolon (items_of s (after s t))) λ _.
    choose (ends_statement t.token) (λ _. items [] t) λ _.
    after_shown (formula_of s t) (λ u. items_of s u)
unfolding items_at items_of
items_unrolled s t = turn s t
