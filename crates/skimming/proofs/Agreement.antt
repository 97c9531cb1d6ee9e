-- The flat reader agrees with the grammar: a formula reads where it does, and the same token follows.
use Rattle.std.specs.Prelude.{Some}
use mathlib.Core.Path.{◌≡◌, refl, sym, ap, ◌∙◌}
use mathlib.Core.Bool.{true}
use mathlib.Core.List.{List, [], ◌∷◌}
use Prim.Native.Nat.{ℕ, zero, suc, ◌+◌, ◌<◌}
use native.Mathlib.Omega.{arith}
use Rattle.whole.specs.declared.arithmetic.Operator.{Operator}
use Rattle.whole.proofs.Never.{never}
use Rattle.words.specs.declared.places.Place.{Place}
use Rattle.words.specs.declared.symbols.Scanned.{Scanned}
use Rattle.words.specs.declared.symbols.Sign.TheVariants.{Open, Close, Comma, Semicolon, Colon, Question, Equal, Minus}
use Rattle.words.specs.declared.symbols.Token.{Token}
use Rattle.words.specs.declared.symbols.Token.TheVariants.{EndOfLine, Keyword, Not, Infix, Call, Named, Number, Hexadecimal, LineOnly, Quoted, Symbol, Unreadable}
use Rattle.words.proofs.Choices.{by_test}
use Rattle.scanner.specs.Tokens.{reads, token_at}
use Rattle.grammar.specs.Tests.{is_symbol}
use Rattle.grammar.specs.Functions.{takes}
use Rattle.grammar.specs.Formulas.{not_level, tightest, right_level, minus_stands, not_stands, operator_of, after, enough, formula_of}
use Rattle.skimming.specs.bridge.Remaining.{weight}
use Rattle.skimming.proofs.Weights.{symbol_reads, reads_if, after_lighter, weight-enough}
use Rattle.skimming.proofs.Grammar.{by_found}
use Rattle.skimming.proofs.Fuel.{formula_level}
use Rattle.skimming.specs.bridge.Flat.{skimmed_of, Opened, plain, of, want_at, have_at, end_at, skim_of}
use Rattle.skimming.proofs.Chains.{formula_loosest}
use Rattle.skimming.proofs.Outside.{outside, wants, has, begins, wants-begins, begins_bad, begins_open, begins_minus, begins_not, begins_call, has_operator, has_end, end_plain, end_call}

-- a token that is an operator reads
pub infix_reads : (t : Token) {op : Operator} → operator_of t ≡ Some op → reads t ≡ true
infix_reads t {op} e =
    reads_if (λ t. operator_of t ≡ Some op)
    (λ h. never (cc))
    (λ h. never (cc))
    t e

module _ (s : List ℕ) where
  mutual
    unfolding want_at outside

    want_agrees : (n : ℕ) (os : List Opened) (level : ℕ) (token : Token) (next : Place)
        → weight s (record { token = token; next = next }) < n
        → want_at n s os level token next ≡ begins s os level token (token_at s next)
    want_agrees zero os level token next h = absurd (omega arith)
    want_agrees (suc n) os level (Number w) next h =
        let g = after_lighter s (record { token = Number w; next = next }) refl in
        have_agrees n os (token_at s next) (omega arith)
    want_agrees (suc n) os level (Hexadecimal w) next h =
        let g = after_lighter s (record { token = Hexadecimal w; next = next }) refl in
        have_agrees n os (token_at s next) (omega arith)
    want_agrees (suc n) os level (Named v) next h =
        let g = after_lighter s (record { token = Named v; next = next }) refl in
        have_agrees n os (token_at s next) (omega arith)
    want_agrees (suc n) os level (Quoted q) next h =
        let g = after_lighter s (record { token = Quoted q; next = next }) refl in
        have_agrees n os (token_at s next) (omega arith)
    want_agrees (suc n) os level (Symbol Open) next h =
        let g = after_lighter s (record { token = Symbol Open; next = next }) refl in
        let u = token_at s next in
        want_agrees n (plain ∷ os) 0 u.token u.next (omega arith)
        ∙ sym (begins_open s os level u ∙ wants-begins s (plain ∷ os) 0 u)
    want_agrees (suc n) os level (Symbol Close) next h = sym (begins_bad s os)
    want_agrees (suc n) os level (Symbol Comma) next h = sym (begins_bad s os)
    want_agrees (suc n) os level (Symbol Semicolon) next h = sym (begins_bad s os)
    want_agrees (suc n) os level (Symbol Colon) next h = sym (begins_bad s os)
    want_agrees (suc n) os level (Symbol Question) next h = sym (begins_bad s os)
    want_agrees (suc n) os level (Symbol Equal) next h = sym (begins_bad s os)
    want_agrees (suc n) os level (Symbol Minus) next h =
        let g = after_lighter s (record { token = Symbol Minus; next = next }) refl in
        let u = token_at s next in
        by_test (minus_stands level)
        (λ e. rw e (want_agrees n os tightest u.token u.next (omega arith) ∙ sym (wants-begins s os tightest u)))
        (λ e. rw e)
        ∙ sym (begins_minus s os level u)
    want_agrees (suc n) os level Not next h =
        let g = after_lighter s (record { token = Not; next = next }) refl in
        let u = token_at s next in
        by_test (not_stands level)
        (λ e. rw e (want_agrees n os not_level u.token u.next (omega arith) ∙ sym (wants-begins s os not_level u)))
        (λ e. rw e)
        ∙ sym (begins_not s os level u)
    want_agrees (suc n) os level (Call f) next h =
        let g = after_lighter s (record { token = Call f; next = next }) refl in
        let u = token_at s next in
        let v = after s u in
        by_test (is_symbol Open u.token)
        (λ e.
        let j = after_lighter s u (symbol_reads Open u.token e) in
        rw e (want_agrees n (of f 0 ∷ os) 0 v.token v.next (omega arith) ∙ sym (wants-begins s (of f 0 ∷ os) 0 v)))
        (λ e. rw e)
        ∙ sym (begins_call s os level f u)
    want_agrees (suc n) os level EndOfLine next h = sym (begins_bad s os)
    want_agrees (suc n) os level (Keyword w) next h = sym (begins_bad s os)
    want_agrees (suc n) os level (Infix op) next h = sym (begins_bad s os)
    want_agrees (suc n) os level (LineOnly l) next h = sym (begins_bad s os)
    want_agrees (suc n) os level Unreadable next h = sym (begins_bad s os)

    have_agrees : (n : ℕ) (os : List Opened) (t : Scanned) → weight s t + 1 < n → have_at n s os t ≡ has s os t
    have_agrees zero os t h = absurd (omega arith)
    have_agrees (suc n) os t h =
        let u = after s t in
        by_found (operator_of t.token)
        (λ op e.
        let g = after_lighter s t (infix_reads t.token e) in
        let w : want_at n s os (right_level op) u.token u.next ≡ wants s os (right_level op) u =
        want_agrees n os (right_level op) u.token u.next (omega arith) ∙ sym (wants-begins s os (right_level op) u) in
        rw e w ∙ sym (has_operator s os t e))
        (λ e. rw e (end_agrees n os t (omega arith)) ∙ sym (has_end s os t e))

    end_agrees : (n : ℕ) (os : List Opened) (t : Scanned) → weight s t < n → end_at n s os t ≡ outside s os (Some t)
    end_agrees zero os t h = absurd (omega arith)
    end_agrees (suc n) [] t h = refl
    end_agrees (suc n) (plain ∷ os) t h =
        by_test (is_symbol Close t.token)
        (λ e.
        let g = after_lighter s t (symbol_reads Close t.token e) in
        rw e (have_agrees n os (after s t) (omega arith)))
        (λ e. rw e)
        ∙ sym (end_plain s os t)
    end_agrees (suc n) (of f k ∷ os) t h =
        let u = after s t in
        by_test (is_symbol Comma t.token)
        (λ e.
        let g = after_lighter s t (symbol_reads Comma t.token e) in
        rw e (want_agrees n (of f (suc k) ∷ os) 0 u.token u.next (omega arith) ∙ sym (wants-begins s (of f (suc k) ∷ os) 0 u)))
        (λ e. rw e (by_test (is_symbol Close t.token)
        (λ c.
        let g = after_lighter s t (symbol_reads Close t.token c) in
        rw c (by_test (takes f (suc k)) (λ i. rw i (have_agrees n os u (omega arith))) (λ i. rw i)))
        (λ c. rw c)))
        ∙ sym (end_call s os f k t)

  -- the formula that begins with a token
  pub formula_wanted : (t : Scanned) → wants s [] 0 t ≡ skimmed_of (formula_of s t)
  unfolding outside
  formula_wanted t = sym (ap skimmed_of (formula_level s t) ∙ formula_loosest s t)

  -- with the bound that is enough
  pub want_is : (os : List Opened) (level : ℕ) (t : Scanned) → want_at (enough s) s os level t.token t.next ≡ wants s os level t
  want_is os level t =
      let w = weight-enough s t in
      want_agrees (enough s) os level t.token t.next (omega arith) ∙ sym (wants-begins s os level t)

  pub skim_agrees : (t : Scanned) → skim_of s t ≡ skimmed_of (formula_of s t)
  unfolding skim_of
  skim_agrees t = want_is [] 0 t ∙ formula_wanted t
