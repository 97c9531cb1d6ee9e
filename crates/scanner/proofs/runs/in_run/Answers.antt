-- Each arm is a clause of `passes`; a word's bytes are letters and digits.
use Rattle.std.specs.Prelude.{None, Option, Some}
use Rattle.words.specs.declared.symbols.Token.{Token}
use mathlib.Core.Path.{◌≡◌, refl}
use mathlib.Core.Bool.{false, ◌||◌}
use Prim.Native.Nat.{ℕ}
use Rattle.whole.specs.Bytes.{is}
use Rattle.whole.specs.Digits.{is_digit}
use Rattle.words.specs.Classes.{is_letter, sign_of, of_sign, class_of}
use Rattle.words.proofs.Choices.{by_test}
use Rattle.scanner.specs.Runs.{of_word}
use Rattle.scanner.proofs.runs.in_run.Goals as goal

no_sign : (s : Option Token) → false ≡ of_word (of_sign s)
no_sign (Some t) = refl
no_sign None = refl

-- what is neither begins no word
word_bytes : (b : ℕ) → is_letter b || is_digit b ≡ of_word (class_of b)
unfolding class_of
word_bytes b = by_test (is_letter b) (λ l. rw l)
    (λ l. by_test (is_digit b) (λ d. rw (l, d))
    (λ d. by_test (is " " b) (λ s. rw (l, d, s)) (λ s. by_test (is "\"" b) (λ q. rw (l, d, s, q)) (λ q. rw (l, d, s, q) (no_sign (sign_of b))))))

pub returns-then-is_letter : goal.returns-then-is_letter
returns-then-is_letter c = rw (c.in-Word.is, ← word_bytes c.args.byte, ← c.is_letter.ensures, c.if-is_letter.true)

pub returns-else-is_letter : goal.returns-else-is_letter
returns-else-is_letter c = rw (c.in-Word.is, ← word_bytes c.args.byte, ← c.is_letter.ensures, c.if-is_letter.false) c.is_digit.ensures
