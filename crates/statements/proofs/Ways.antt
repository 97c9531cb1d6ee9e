-- The ways that a statement can begin: what holds of each way holds of what begins so. A formula, the items of a PRINT, a FOR, a LINE
-- INPUT, DATA, READ.
use mathlib.Core.Path.{◌≡◌, refl}
use mathlib.Core.Bool.{Bool, true, false}
use mathlib.Core.List.{List, []}
use Prim.Native.Nat.{ℕ}
use Rattle.words.specs.declared.symbols.Scanned.{Scanned}
use Rattle.words.specs.declared.symbols.Sign.TheVariants.{Semicolon, Equal}
use Rattle.words.specs.declared.symbols.Word.TheVariants.{Then, Goto, To, Step}
use Rattle.words.proofs.Choices.{by_test}
use Rattle.items.specs.Items as item
use Rattle.items.specs.Items.{DataItems, items_from}
use Rattle.scanner.specs.Tokens.{token_at}
use Rattle.words.specs.Places.{place}
use Rattle.grammar.specs.Tests.{choose, is_symbol, is_keyword}
use Rattle.grammar.specs.Trees.{Formula, number, Variable, Item, assign, print, for, while, line_input, data_of, read}
use Rattle.grammar.specs.Formulas as formulas
use Rattle.grammar.specs.Formulas.{Reading, good, after, enough, formula_of}
use Rattle.statements.specs.Statements.{Begun, bad, done, choice, on_formula, variable_of, assign_at, Items, no_items, items, items_at, printed, print_at, if_at, for_at, target_at, input_at, held, data_at, NameList, unlisted, listed, names_at, filled_by, read_at}
use Rattle.statements.specs.bridge.Answers.{items_of}
use Rattle.statements.proofs.Findings.{by_name, by_line, by_text}

-- ---- what holds of each way, and where nothing reads, holds

module _ (P : Begun → Type 0) (none : P bad) where
  pub if_so : (test : Bool) (go : Unit {0} → Begun) → P (go tt) → P (choose test go (λ _. bad))
  if_so true go h = h
  if_so false go h = none

  if_formula : (x : Reading) (go : Formula → Scanned → Begun) → ((f : Formula) (u : Scanned) → x ≡ good f u → P (go f u)) → P (on_formula x go)
  if_formula formulas.bad go h = none
  if_formula (formulas.good f u) go h = h f u refl

  module _ (s : List ℕ) (t : Scanned) where
    pub by_assign : (v : Variable) → ((f : Formula) (u : Scanned) → formula_of s (after s t) ≡ good f u → P (done (assign v f) u))
        → P (assign_at s v t)
    by_assign v h = if_so (is_symbol Equal t.token) _ (if_formula (formula_of s (after s t)) _ h)

    pub by_items : ((is : List Item) (u : Scanned) → items_of s t ≡ items is u → P (done (print is) u)) → P (print_at s t)
    unfolding print_at items_of
    by_items h = go (items_at (enough s) s t) refl
      where
        go : (x : Items) → items_at (enough s) s t ≡ x → P (printed x)
        go no_items e = none
        go (items is u) e = h is u e

    pub by_condition : ((c : Formula) (u : Scanned) → formula_of s t ≡ good c u → P (choice c u)) → P (if_at s (formula_of s t))
    by_condition h = go (formula_of s t) refl
      where
        go : (x : Reading) → formula_of s t ≡ x → P (if_at s x)
        go formulas.bad e = none
        go (formulas.good c u) e =
            by_test (is_keyword Then u.token) (λ f. rw f (h c u e)) λ f. rw f
            (if_so (is_keyword Goto u.token) _ (by_line P (after s u).token _ _ (λ l n r. h c u e) (λ n. none)))

    pub by_repeat : ((c : Formula) (u : Scanned) → formula_of s t ≡ good c u → P (done (while c) u))
        → P (on_formula (formula_of s t) (λ c u. done (while c) u))
    by_repeat h = if_formula (formula_of s t) _ h

    pub by_data : ((l : List (List ℕ)) (end : ℕ) → items_from s t.next.0 ≡ item.items l end → P (done (data_of l) (token_at s (place end))))
        → P (data_at s t)
    unfolding data_at
    by_data h = go (items_from s t.next.0) refl
      where
        go : (x : DataItems) → items_from s t.next.0 ≡ x → P (held s x)
        go item.bad e = none
        go (item.items l end) e = h l end e

    pub by_read : ((vs : List Variable) (u : Scanned) → names_at (enough s) s t ≡ listed vs u → P (done (read vs) u)) → P (read_at s t)
    unfolding read_at
    by_read h = go (names_at (enough s) s t) refl
      where
        go : (x : NameList) → names_at (enough s) s t ≡ x → P (filled_by x)
        go unlisted e = none
        go (listed vs u) e = h vs u e

    for-done : (v : Variable) → ((a b c : Formula) (u : Scanned) → P (done (for v a b c) u)) → P (for_at s v t)
    unfolding for_at
    for-done v h =
        if_so (is_symbol Equal t.token) _
        (if_formula (formula_of s (after s t)) _ λ a x i.
        if_so (is_keyword To x.token) _
        (if_formula (formula_of s (after s x)) _ λ b y j.
        by_test (is_keyword Step y.token)
        (λ f. rw f (if_formula (formula_of s (after s y)) _ (λ c u k. h a b c u)))
        (λ f. rw f (h a b (number 1) y))))

    target_done : (text : List ℕ) (w : Scanned) → ((v : Variable) (u : Scanned) → P (done (line_input text v) u)) → P (target_at s text w)
    target_done text w h = by_name P w.token _ _ (λ v f n. h (variable_of s v) (after s w)) (λ f. none)

    input_done : ((text : List ℕ) (v : Variable) (u : Scanned) → P (done (line_input text v) u)) → P (input_at s t)
    unfolding input_at
    input_done h =
        by_text P t.token _ _
        (λ q f n. if_so (is_symbol Semicolon (after s t).token) _ (target_done _ (after s (after s t)) (h _)))
        (λ f. target_done [] t (h []))

-- the same, with what it is
module _ (P : Begun → Type 0) (none : P bad) (s : List ℕ) (t : Scanned) where
  pub by_for : (v : Variable) → ((a b c : Formula) (u : Scanned) → for_at s v t ≡ done (for v a b c) u → P (done (for v a b c) u))
      → P (for_at s v t)
  by_for v h = for-done (λ b. for_at s v t ≡ b → P b) (λ e. none) s t v h refl

  pub by_input : ((text : List ℕ) (v : Variable) (u : Scanned) → input_at s t ≡ done (line_input text v) u → P (done (line_input text v) u))
      → P (input_at s t)
  by_input h = input_done (λ b. input_at s t ≡ b → P b) (λ e. none) s t h refl
