-- Bridge: the flat reader of formulas: whether one reads and which token follows it, a token at a time, with a list of what is open.
-- The contracts of functions that crates use among themselves cite it; no demand and no promise of run, check_recipe or ask rests on it.
-- Inside one pair of parentheses a formula is operands parted by operators. How tight an operator binds matters only for what may
-- begin the operand behind it, so it is enough to know at which level an operand is wanted.
use Rattle.std.specs.Prelude.{List, [], ◌∷◌, ℕ, zero, suc, None, Option, Some}
use Rattle.whole.specs.declared.arithmetic.Operator.{Operator}
use Rattle.words.specs.declared.places.Place.{Place}
use Rattle.words.specs.declared.symbols.Function.{Function}
use Rattle.words.specs.declared.symbols.Scanned.{Scanned}
use Rattle.words.specs.declared.symbols.Sign.TheVariants.{
  Open,
  Close,
  Comma,
  Semicolon,
  Colon,
  Question,
  Equal,
  Minus,
}
use Rattle.words.specs.declared.symbols.Token.{Token}
use Rattle.words.specs.declared.symbols.Token.TheVariants.{
  EndOfLine,
  Keyword,
  Not,
  Infix,
  Call,
  Named,
  Number,
  Hexadecimal,
  LineOnly,
  Quoted,
  Symbol,
  Unreadable,
}
use Rattle.scanner.specs.Tokens.{token_at}
use Rattle.grammar.specs.Tests.{choose, is_symbol}
use Rattle.grammar.specs.Functions.{takes}
use Rattle.grammar.specs.Formulas.{not_level, tightest, right_level, minus_stands, not_stands, operator_of, Reading, bad, good, after, enough}

-- what is kept of a formula that was read: the token that follows it
abbrev pub skimmed_of : Reading → Option Scanned
skimmed_of bad = None
skimmed_of (good f t) = Some t

-- what is open: a plain parenthesis; or a function's, with how many of its arguments stand before the one that is read
pub data Opened : Type 0 where
  plain : Opened
  of : Function → ℕ → Opened

abbrev pub on_operator : Option Operator → (Operator → Option Scanned) → (Unit {0} → Option Scanned) → Option Scanned
on_operator (Some op) go other = go op
on_operator None go other = other tt

unfoldable mutual
  -- an operand is wanted at a level, and begins with this token; the first argument bounds how deep the definitions go
  pub want_at : ℕ → List ℕ → List Opened → ℕ → Token → Place → Option Scanned
  want_at zero s o level t next = None
  want_at (suc n) s o level (Number w) next = have_at n s o (token_at s next)
  want_at (suc n) s o level (Hexadecimal w) next = have_at n s o (token_at s next)
  want_at (suc n) s o level (Named v) next = have_at n s o (token_at s next)
  want_at (suc n) s o level (Quoted q) next = have_at n s o (token_at s next)
  want_at (suc n) s o level (Symbol Open) next = want_at n s (plain ∷ o) 0 (token_at s next).token (token_at s next).next
  want_at (suc n) s o level (Symbol Minus) next =
      choose (minus_stands level) (λ _. want_at n s o tightest (token_at s next).token (token_at s next).next) (λ _. None)
  want_at (suc n) s o level (Symbol Close) next = None
  want_at (suc n) s o level (Symbol Comma) next = None
  want_at (suc n) s o level (Symbol Semicolon) next = None
  want_at (suc n) s o level (Symbol Colon) next = None
  want_at (suc n) s o level (Symbol Question) next = None
  want_at (suc n) s o level (Symbol Equal) next = None
  want_at (suc n) s o level Not next =
      choose (not_stands level) (λ _. want_at n s o not_level (token_at s next).token (token_at s next).next) (λ _. None)
  want_at (suc n) s o level (Call f) next =
      choose (is_symbol Open (token_at s next).token)
      (λ _. want_at n s (of f 0 ∷ o) 0 (after s (token_at s next)).token (after s (token_at s next)).next)
      (λ _. None)
  want_at (suc n) s o level EndOfLine next = None
  want_at (suc n) s o level (Keyword w) next = None
  want_at (suc n) s o level (Infix op) next = None
  want_at (suc n) s o level (LineOnly l) next = None
  want_at (suc n) s o level Unreadable next = None

  -- an operand was read, and this token follows it: an operator with its right side, or the end of what was opened last
  pub have_at : ℕ → List ℕ → List Opened → Scanned → Option Scanned
  have_at zero s o t = None
  have_at (suc n) s o t =
      on_operator (operator_of t.token)
      (λ op. want_at n s o (right_level op) (after s t).token (after s t).next)
      (λ _. end_at n s o t)

  -- no operator follows
  pub end_at : ℕ → List ℕ → List Opened → Scanned → Option Scanned
  end_at zero s o t = None
  end_at (suc n) s [] t = Some t
  end_at (suc n) s (plain ∷ o) t = choose (is_symbol Close t.token) (λ _. have_at n s o (after s t)) (λ _. None)
  end_at (suc n) s (of f k ∷ o) t =
      choose (is_symbol Comma t.token) (λ _. want_at n s (of f (suc k) ∷ o) 0 (after s t).token (after s t).next) λ _.
      choose (is_symbol Close t.token)
      (λ _. choose (takes f (suc k)) (λ _. have_at n s o (after s t)) (λ _. None)) λ _.
      None

-- the formula that begins with the token t, skimmed
unfoldable pub skim_of : List ℕ → Scanned → Option Scanned
skim_of s t = want_at (enough s) s [] 0 t.token t.next
