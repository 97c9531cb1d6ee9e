-- The items of a PRINT, one after another.
use mathlib.Core.Path.{◌≡◌, refl, sym, ◌∙◌, subst}
use mathlib.Core.Bool.{Bool, true, false, ◌||◌, false≢true}
use mathlib.Core.List.{List, [], ◌∷◌}
use Prim.Native.Nat.{ℕ, ◌+◌, ◌≤◌}
use lib.ListN.{length}
use Rattle.words.specs.declared.symbols.Sign.TheVariants.{Open, Close, Comma, Semicolon, Colon, Question, Equal, Minus}
use Rattle.words.specs.declared.symbols.Token.{Token}
use Rattle.words.specs.declared.symbols.Token.TheVariants.{EndOfLine, Keyword, Not, Infix, Call, Named, Number, Hexadecimal, LineOnly, Quoted, Symbol, Unreadable}
use Rattle.words.specs.declared.symbols.Scanned.{Scanned}
use Rattle.words.proofs.Choices.{by_test}
use Rattle.words.specs.Places.{longest_line}
use Rattle.grammar.specs.Tests.{is_symbol, ends_statement}
use Rattle.grammar.specs.Trees.{Item, comma, semicolon, shown}
use Rattle.grammar.specs.Formulas.{after}
use Rattle.statements.specs.Statements.{items, is_separator}
use Rattle.statements.specs.bridge.Answers.{items_of}
use Rattle.skimming.specs.bridge.Remaining.{weight}
use Rattle.statements.proofs.Fuel.{items_unrolled}
use Rattle.skimming.proofs.Weights.{after_lighter, symbol_reads}
use Rattle.skimming.proofs.Grammar.{formula_lighter}
use Rattle.statements.proofs.Views.{comma_view, semicolon_view, none_view, show_view}
use Rattle.formulas.specs.bridge.Memory.{Scans}
use native.Mathlib.Omega.{arith}
use Rattle.expressions.specs.Types.{deepest_nesting}
use Rattle.statements.specs.Parts.{item_formulas, deepest}
use Rattle.turns.specs.bridge.Turns.{Formed}
use Rattle.dialogue.specs.bridge.Showing.{ItemAt}

-- what ends a statement separates no items
pub ends_separates_not : (t : Token) → ends_statement t ≡ true → (is_symbol Comma t ≡ false) × (is_symbol Semicolon t ≡ false)
ends_separates_not EndOfLine e = (refl, refl)
ends_separates_not (Keyword w) e = (refl, refl)
ends_separates_not Not e = (refl, refl)
ends_separates_not (Infix op) e = (refl, refl)
ends_separates_not (Call f) e = (refl, refl)
ends_separates_not (Named v) e = (refl, refl)
ends_separates_not (Number n) e = (refl, refl)
ends_separates_not (Hexadecimal n) e = (refl, refl)
ends_separates_not (LineOnly l) e = (refl, refl)
ends_separates_not (Quoted q) e = (refl, refl)
ends_separates_not (Symbol Open) e = (refl, refl)
ends_separates_not (Symbol Close) e = (refl, refl)
ends_separates_not (Symbol Comma) e = absurd (false≢true e)
ends_separates_not (Symbol Semicolon) e = absurd (false≢true e)
ends_separates_not (Symbol Colon) e = (refl, refl)
ends_separates_not (Symbol Question) e = (refl, refl)
ends_separates_not (Symbol Equal) e = (refl, refl)
ends_separates_not (Symbol Minus) e = (refl, refl)
ends_separates_not Unreadable e = (refl, refl)

neither : (a b : Bool) → (a || b) ≡ false → (a ≡ false) × (b ≡ false)
neither true b e = absurd (false≢true (sym e))
neither false b e = (refl, e)

-- ---- from one item to the next

-- a token that begins a formula is one of the line
abbrev pub Fresh : List ℕ → Scanned → Type 0
Fresh line t = is_separator t.token ≡ false → ends_statement t.token ≡ false → Scans line t

abbrev pub separates_item : Item → Bool
separates_item comma = true
separates_item semicolon = true
separates_item (shown f) = false

-- the first of some items, and the token that the others begin with
pub record Advances (line : List ℕ) (t : Scanned) (all : List Item) (end : Scanned) : Type 0 where
  pub first : Item
  pub others : List Item
  pub next : Scanned
  pub is : all ≡ first ∷ others
  pub at : ItemAt line t first next
  pub separates : is_separator t.token ≡ separates_item first
  pub reads : items_of line next ≡ items others end
  pub fresh : Fresh line next
  pub lighter : weight line next + 4 ≤ weight line t

module _ (line : List ℕ) (t : Scanned) {all : List Item} {end : Scanned} (e : items_of line t ≡ items all end) where
  -- none is left where the statement ends
  pub no_items : ends_statement t.token ≡ true → (all ≡ []) × (end ≡ t)
  no_items h = let n = ends_separates_not t.token h in none_view line t e n.0 n.1 h

  module _ (goes_on : ends_statement t.token ≡ false) where
    -- what is no separator begins a formula
    pub formed_item : length line ≤ longest_line → deepest (item_formulas all) ≤ deepest_nesting → Fresh line t → is_separator t.token ≡ false
        → Formed line t
    unfolding deepest
    formed_item short low fresh h =
        let n = neither (is_symbol Comma t.token) (is_symbol Semicolon t.token) h in
        let v = show_view line t e n.0 n.1 goes_on in
        let k = subst (λ is. deepest (item_formulas is) ≤ deepest_nesting) v.shows.is low in
        record { short = short; scans = fresh h goes_on; reads = record { of = v.of; next = v.at; is = v.from; shallow = omega arith } }

    pub advances : ends_statement end.token ≡ true → Advances line t all end
    advances ends =
        by_test (is_symbol Comma t.token)
        (λ a. let v = comma_view line t e a in
        record {
          first = comma;
          others = v.of;
          next = after line t;
          is = v.is;
          at = (a, refl);
          separates = rw a;
          reads = v.from;
          fresh = λ _ _. record { from = t.next; is = refl };
          lighter = after_lighter line t (symbol_reads Comma t.token a);
        })
        λ a. by_test (is_symbol Semicolon t.token)
        (λ b. let v = semicolon_view line t e a b in
        record {
          first = semicolon;
          others = v.of;
          next = after line t;
          is = v.is;
          at = (a, (b, refl));
          separates = rw (a, b);
          reads = v.from;
          fresh = λ _ _. record { from = t.next; is = refl };
          lighter = after_lighter line t (symbol_reads Semicolon t.token b);
        })
        λ b. let v = show_view line t e a b goes_on in
        by_test (is_separator v.at.token)
        (λ s. record {
          first = shown v.of;
          others = v.shows.of;
          next = v.at;
          is = v.shows.is;
          at = (a, (b, v.from));
          separates = rw (a, b);
          reads = rw s at v.shows.from;
          fresh = λ n _. absurd (false≢true (sym n ∙ s));
          lighter = (formula_lighter line t v.from).1;
        })
        (λ s. let h = rw s at v.shows.from in
        let o : v.shows.of ≡ [] = cc in
        let k : end ≡ v.at = cc in
        let f : ends_statement v.at.token ≡ true = rw (← k) ends in
        let n = neither (is_symbol Comma v.at.token) (is_symbol Semicolon v.at.token) s in
        record {
          first = shown v.of;
          others = v.shows.of;
          next = v.at;
          is = v.shows.is;
          at = (a, (b, v.from));
          separates = rw (a, b);
          reads = items_unrolled line v.at ∙ rw (n.0, n.1, f) h;
          fresh = λ _ m. absurd (false≢true (sym m ∙ f));
          lighter = (formula_lighter line t v.from).1;
        })
