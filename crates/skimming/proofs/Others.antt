-- What cannot begin an operand, told by the arms of a `match` that stand for all the rest.
use mathlib.Core.Path.{◌≡◌, refl}
use mathlib.Core.List.{List, [], ◌∷◌}
use Prim.Native.Nat.{ℕ}
use denote.Enum.Declared.{tag_of}
use types.Run.{OneOf, miss}
use Rattle.words.specs.declared.places.Place.{Place}
use Rattle.words.specs.declared.symbols.Scanned.{Scanned}
use Rattle.words.specs.declared.symbols.Sign.{Sign}
use Rattle.words.specs.declared.symbols.Sign.TheVariants.{Open, Close, Comma, Semicolon, Colon, Question, Equal, Minus}
use Rattle.words.specs.declared.symbols.Token.{Token}
use Rattle.words.specs.declared.symbols.Token.TheVariants.{EndOfLine, Keyword, Not, Infix, Call, Named, Number, Hexadecimal, LineOnly, Quoted, Symbol, Unreadable}
use Rattle.skimming.specs.bridge.Steps.{sign_step, want_step}
use Rattle.skimming.specs.declared.stepping.Step.TheVariants.{Refused}

abbrev other_signs : List ℕ
other_signs = 1 ∷ 2 ∷ 3 ∷ 4 ∷ 5 ∷ 6 ∷ []

pub no_sign : (s : List ℕ) (level : ℕ) (x : Sign) (u : Scanned) → OneOf other_signs (tag_of Rattle.words.specs.contracts.symbols.Sign.the_type x)
    → sign_step s level x u ≡ Refused
no_sign s level Open u h = absurd (miss other_signs 0 tt h)
no_sign s level Close u h = refl
no_sign s level Comma u h = refl
no_sign s level Semicolon u h = refl
no_sign s level Colon u h = refl
no_sign s level Question u h = refl
no_sign s level Equal u h = refl
no_sign s level Minus u h = absurd (miss other_signs 7 tt h)

abbrev other_tokens : List ℕ
other_tokens = 0 ∷ 1 ∷ 3 ∷ 8 ∷ 11 ∷ []

pub no_operand : (s : List ℕ) (level : ℕ) (t : Token) (next : Place) → OneOf other_tokens (tag_of Rattle.words.specs.contracts.symbols.Token.the_type t)
    → want_step s level t next ≡ Refused
no_operand s level EndOfLine next h = refl
no_operand s level (Keyword w) next h = refl
no_operand s level Not next h = absurd (miss other_tokens 2 tt h)
no_operand s level (Infix op) next h = refl
no_operand s level (Call f) next h = absurd (miss other_tokens 4 tt h)
no_operand s level (Named v) next h = absurd (miss other_tokens 5 tt h)
no_operand s level (Number n) next h = absurd (miss other_tokens 6 tt h)
no_operand s level (Hexadecimal n) next h = absurd (miss other_tokens 7 tt h)
no_operand s level (LineOnly l) next h = refl
no_operand s level (Quoted q) next h = absurd (miss other_tokens 9 tt h)
no_operand s level (Symbol x) next h = absurd (miss other_tokens 10 tt h)
no_operand s level Unreadable next h = refl
