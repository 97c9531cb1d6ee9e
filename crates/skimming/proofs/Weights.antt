-- How much is left to read from a token on: each token that reads weighs more than what follows it.
use Rattle.std.specs.Prelude.{Some}
use mathlib.Core.Path.{◌≡◌, refl}
use mathlib.Core.Bool.{true, false≢true}
use mathlib.Core.List.{List}
use Prim.Native.Nat.{ℕ, ◌+◌, ◌*◌, ◌≤◌, ◌<◌}
use native.Mathlib.Omega.{arith}
use lib.ListN.{length}
use Rattle.whole.specs.declared.arithmetic.Operator.{Operator}
use Rattle.whole.proofs.Never.{never}
use Rattle.words.specs.declared.places.Place.{Place}
use Rattle.words.specs.declared.symbols.Scanned.{Scanned}
use Rattle.words.specs.declared.symbols.Sign.{Sign}
use Rattle.words.specs.declared.symbols.Token.{Token}
use Rattle.words.specs.declared.symbols.Token.TheVariants.{EndOfLine, Keyword, Not, Infix, Call, Named, Number, Hexadecimal, LineOnly, Quoted, Symbol, Unreadable}
use Rattle.words.specs.declared.symbols.Word.{Word}
use Rattle.words.proofs.Choices.{by_test}
use Rattle.scanner.specs.Tokens.{reads, token_at}
use Rattle.scanner.proofs.Ends.{token_ends}
use Rattle.grammar.specs.Tests.{is_symbol, is_keyword}
use Rattle.grammar.specs.Formulas.{tight_operator, after, enough}
use Rattle.skimming.specs.bridge.Remaining.{weight}

-- ---- what reads

-- whatever is so of neither the line's end nor what does not read
pub reads_if : (P : Token → Type 0) → (P EndOfLine → ⊥) → (P Unreadable → ⊥) → (t : Token) → P t → reads t ≡ true
reads_if P e u EndOfLine h = absurd (e h)
reads_if P e u (Keyword w) h = refl
reads_if P e u Not h = refl
reads_if P e u (Infix op) h = refl
reads_if P e u (Call f) h = refl
reads_if P e u (Named v) h = refl
reads_if P e u (Number n) h = refl
reads_if P e u (Hexadecimal n) h = refl
reads_if P e u (LineOnly l) h = refl
reads_if P e u (Quoted q) h = refl
reads_if P e u (Symbol s) h = refl
reads_if P e u Unreadable h = absurd (u h)

pub symbol_reads : (x : Sign) (t : Token) → is_symbol x t ≡ true → reads t ≡ true
symbol_reads x t e = reads_if (λ t. is_symbol x t ≡ true) (λ h. false≢true h) (λ h. false≢true h) t e

pub keyword_reads : (x : Word) (t : Token) → is_keyword x t ≡ true → reads t ≡ true
keyword_reads x t e = reads_if (λ t. is_keyword x t ≡ true) (λ h. false≢true h) (λ h. false≢true h) t e

pub operator_reads : (level : ℕ) (t : Token) {op : Operator} → tight_operator level t ≡ Some op → reads t ≡ true
operator_reads level t {op} e =
    reads_if (λ t. tight_operator level t ≡ Some op)
    (λ h. never (cc))
    (λ h. never (cc))
    t e

-- ---- weights

pub weight-enough : (s : List ℕ) (t : Scanned) → weight s t + 3 < enough s
unfolding weight
weight-enough s t = by_test (reads t.token) (λ r. rw r (omega arith)) (λ r. rw r (omega arith))

-- a token has a byte
pub token_weight : (s : List ℕ) (at : Place) → weight s (token_at s at) ≤ 4 * length s + 4
unfolding weight
token_weight s at =
    by_test (reads (token_at s at).token) (λ r. rw r (omega (arith, (token_ends s at).past r))) (λ r. rw r (omega arith))

pub after_lighter : (s : List ℕ) (t : Scanned) → reads t.token ≡ true → weight s (after s t) + 4 ≤ weight s t
unfolding weight
after_lighter s t r =
    rw r
    (by_test (reads (after s t).token)
    (λ e. rw e (omega (arith, (token_ends s t.next).past e, (token_ends s t.next).within)))
    (λ e. rw e (omega arith)))
