-- The items of a PRINT: the code's loop goes from one to the next.
use mathlib.Core.Path.{◌≡◌, refl, sym, ap, ◌∙◌}
use mathlib.Core.Bool.{Bool, true, false, false≢true, ◌&&◌, ◌||◌, and-true}
use mathlib.Core.List.{List, []}
use Prim.Native.Nat.{ℕ, suc, max}
use native.Mathlib.Nat.{zero-max, max-zero}
use Rattle.words.specs.declared.symbols.Scanned.{Scanned}
use Rattle.words.specs.declared.symbols.Sign.TheVariants.{Comma, Semicolon}
use Rattle.words.specs.declared.symbols.Token.{Token}
use Rattle.words.proofs.Choices.{by_test}
use Rattle.scanner.specs.Tokens.{reads}
use Rattle.grammar.specs.Tests.{is_symbol, ends_statement}
use Rattle.grammar.specs.Trees.{Formula, comma, semicolon, shown}
use Rattle.grammar.specs.Formulas as formulas
use Rattle.grammar.specs.Formulas.{after, enough, formula_of}
use Rattle.expressions.specs.Types.{sort_of, depth_of}
use Rattle.statements.specs.Statements.{Items, no_items, items, with_item, is_separator, items_at, printed, print_at}
use Rattle.statements.specs.Parts.{item_formulas, deepest, all_some}
use Rattle.expressions.specs.Types.{is_some}
use Rattle.expressions.specs.bridge.Answers.{capped_depth}
use Rattle.statements.specs.bridge.Answers.{fits, known_sort, formed_read, begun_answer}
use Rattle.statements.specs.declared.reading.StatementRead.{StatementRead}
use Rattle.std.specs.Prelude.{Option, Some, None}
use Rattle.statements.proofs.Fuel.{turn}
use Rattle.statements.proofs.Known.{known, fits-max, apart}
use Rattle.skimming.proofs.Weights.{reads_if}
use Rattle.expressions.proofs.Answering.{capped_max, max_assoc}

-- ---- the answer, where items of some depth and of some types or none were read before

abbrev pub continued : ℕ → Bool → Items → Option StatementRead
continued depth typed no_items = None
continued depth typed (items is t) =
    Some (formed_read t (max depth (capped_depth (deepest (item_formulas is)))) (typed && (fits (deepest (item_formulas is)) && all_some (item_formulas is))))

pub print_begins : (s : List ℕ) (t : Scanned) → begun_answer (print_at s t) ≡ continued 0 true (items_at (enough s) s t)
unfolding print_at
print_begins s t = begins (items_at (enough s) s t)
  where
    begins : (x : Items) → begun_answer (printed x) ≡ continued 0 true x
    begins no_items = refl
    begins (items is t) = rw (zero-max (capped_depth (deepest (item_formulas is))))

with_comma : (d : ℕ) (k : Bool) (x : Items) → continued d k (with_item comma x) ≡ continued d k x
with_comma d k no_items = refl
with_comma d k (items is t) = refl

with_semicolon : (d : ℕ) (k : Bool) (x : Items) → continued d k (with_item semicolon x) ≡ continued d k x
with_semicolon d k no_items = refl
with_semicolon d k (items is t) = refl

shown_typed : (k : Bool) (f : Formula) (fs : List Formula) → (k && (fits (max (depth_of f) (deepest fs)) && (is_some (sort_of f) && all_some fs)))
    ≡ ((k && is_some (known_sort f)) && (fits (deepest fs) && all_some fs))
shown_typed k f fs =
    rw (fits-max (depth_of f) (deepest fs), known is_some refl f)
    (apart k (fits (depth_of f)) (fits (deepest fs)) (is_some (sort_of f)) (all_some fs))

-- a formula adds its depth and its type
with_shown : (d : ℕ) (k : Bool) (f : Formula) (x : Items)
    → continued d k (with_item (shown f) x) ≡ continued (max d (capped_depth (depth_of f))) (k && is_some (known_sort f)) x
unfolding deepest all_some
with_shown d k f no_items = refl
with_shown d k f (items is t) =
    rw (capped_max (depth_of f) (deepest (item_formulas is)), max_assoc d (capped_depth (depth_of f)) (capped_depth (deepest (item_formulas is))))
    (ap (λ k. Some (formed_read t (max (max d (capped_depth (depth_of f))) (capped_depth (deepest (item_formulas is)))) k))
    (shown_typed k f (item_formulas is)))

with_none : (d : ℕ) (k : Bool) (t : Scanned) → continued d k (items [] t) ≡ Some (formed_read t d k)
unfolding deepest all_some
with_none d k t = rw (max-zero d, and-true k)

-- ---- the turns of the code's loop

pub separator_reads : (t : Token) → is_separator t ≡ true → reads t ≡ true
separator_reads t e = reads_if (λ t. is_separator t ≡ true) (λ e. false≢true e) (λ e. false≢true e) t e

neither : (a b : Bool) → (a || b) ≡ false → (a ≡ false) × (b ≡ false)
neither true b e = absurd (false≢true (sym e))
neither false b e = (refl, e)

module _ (s : List ℕ) (t : Scanned) (d : ℕ) (k : Bool) {r : Option StatementRead} (so_far : r ≡ continued d k (items_at (enough s) s t)) where
  here : r ≡ continued d k (items_at (suc (enough s)) s t)
  here = so_far ∙ ap (continued d k) (turn s t)

  pub print_separator : is_separator t.token ≡ true → r ≡ continued d k (items_at (enough s) s (after s t))
  unfolding items_at
  print_separator e =
      by_test (is_symbol Comma t.token)
      (λ a. rw a at here ∙ with_comma d k (items_at (enough s) s (after s t)))
      (λ a. let b = rw a at e in rw (a, b) at here ∙ with_semicolon d k (items_at (enough s) s (after s t)))

  module _ (no-separator : is_separator t.token ≡ false) where
    no_comma : is_symbol Comma t.token ≡ false
    no_comma = (neither (is_symbol Comma t.token) (is_symbol Semicolon t.token) no-separator).0

    no_semicolon : is_symbol Semicolon t.token ≡ false
    no_semicolon = (neither (is_symbol Comma t.token) (is_symbol Semicolon t.token) no-separator).1

    pub print_ends : ends_statement t.token ≡ true → r ≡ Some (formed_read t d k)
    unfolding items_at
    print_ends e = rw (no_comma, no_semicolon, e) at here ∙ with_none d k t

    module _ (goes_on : ends_statement t.token ≡ false) where
      pub print_bad : formula_of s t ≡ formulas.bad → r ≡ None
      unfolding items_at
      print_bad e = rw (no_comma, no_semicolon, goes_on, e) at here

      module _ {f : Formula} {u : Scanned} (is : formula_of s t ≡ formulas.good f u)
          {e : ℕ} {l : Bool} (deep : e ≡ max d (capped_depth (depth_of f))) (some : l ≡ (k && is_some (known_sort f))) where
        pub print_last : is_separator u.token ≡ false → r ≡ Some (formed_read u e l)
        unfolding items_at
        print_last last =
            rw (deep, some)
            (rw (no_comma, no_semicolon, goes_on, is, last) at here
            ∙ with_shown d k f (items [] u) ∙ with_none (max d (capped_depth (depth_of f))) (k && is_some (known_sort f)) u)

        pub print_more : is_separator u.token ≡ true → r ≡ continued e l (items_at (enough s) s u)
        unfolding items_at
        print_more more =
            rw (deep, some)
            (rw (no_comma, no_semicolon, goes_on, is, more) at here ∙ with_shown d k f (items_at (enough s) s u))
