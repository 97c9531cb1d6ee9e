-- Each arm is an entry of the table; in the last, the byte is none of theirs.
use Rattle.std.specs.Prelude.{None, Option}
use Rattle.words.specs.declared.symbols.Token.{Token}
use borrow.Author.Tests.{ne_eqb}
use mathlib.Core.Path.{◌≡◌, refl, sym}
use mathlib.Core.List.{List, [], ◌∷◌}
use Prim.Native.Nat.{ℕ}
use lib.ListN.{get_or}
use Rattle.whole.specs.Bytes.{bytes}
use Rattle.words.specs.Spellings.{Spelt, same_bytes, meaning}
use Rattle.words.specs.Classes.{signs}
use Rattle.words.proofs.Tables.{passed_over}
use Rattle.words.proofs.classes.sign_of.Goals as goal

-- the byte that a sign begins with
first : Spelt (Option Token) → ℕ
first e = get_or e.spelling 0 0

-- another byte is passed over
passed : (b : ℕ) (s : List ℕ) (x : Option Token) (es : List (Spelt (Option Token))) → (b ≡ get_or s 0 0 → ⊥)
    → meaning (record { spelling = s; thing = x } ∷ es) None (b ∷ []) ≡ meaning es None (b ∷ [])
unfolding meaning same_bytes
passed b [] x es d = refl
passed b (k ∷ s) x es d = simp (ne_eqb b k d)

pub returns-in_default : goal.returns-in_default
unfolding meaning same_bytes signs bytes first
returns-in_default c = sym (passed_over (λ t. meaning t None (c.args.byte ∷ [])) first c.args.byte (λ e. passed _ e.spelling e.thing) signs [] c.in_default.in_default-own.rest).0
