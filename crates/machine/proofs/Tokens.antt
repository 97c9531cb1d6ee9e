-- A token and a word by its tag: a name, or none.
use mathlib.Core.Path.{◌≡◌, refl}
use mathlib.Core.List.{List, [], ◌∷◌}
use Prim.Native.Nat.{ℕ}
use denote.Enum.Declared.{tag_of}
use types.Run.{OneOf, miss}
use Rattle.words.specs.declared.names.Name.{Name}
use Rattle.words.specs.declared.symbols.Token.{Token}
use Rattle.words.specs.declared.symbols.Token.TheVariants.{EndOfLine, Keyword, Not, Infix, Call, Named, Number, Hexadecimal, LineOnly, Quoted, Symbol, Unreadable}
use Rattle.words.specs.declared.symbols.Word.{Word}
use Rattle.grammar.specs.Tests.{on_name}

abbrev pub token_tag : Token → ℕ
token_tag t = tag_of Rattle.words.specs.contracts.symbols.Token.the_type t

abbrev pub word_tag : Word → ℕ
word_tag w = tag_of Rattle.words.specs.contracts.symbols.Word.the_type w

-- what holds of every name, and of what is none
pub by_named : (P : Token → Type 0) → ((v : Name) → P (Named v))
    → ((t : Token) → ((A : Type 0) (go : Name → A) (other : A) → on_name t go other ≡ other) → P t) → (t : Token) → P t
by_named P name none EndOfLine = none EndOfLine (λ A go other. refl)
by_named P name none (Keyword w) = none (Keyword w) (λ A go other. refl)
by_named P name none Not = none Not (λ A go other. refl)
by_named P name none (Infix op) = none (Infix op) (λ A go other. refl)
by_named P name none (Call f) = none (Call f) (λ A go other. refl)
by_named P name none (Named v) = name v
by_named P name none (Number n) = none (Number n) (λ A go other. refl)
by_named P name none (Hexadecimal n) = none (Hexadecimal n) (λ A go other. refl)
by_named P name none (LineOnly l) = none (LineOnly l) (λ A go other. refl)
by_named P name none (Quoted q) = none (Quoted q) (λ A go other. refl)
by_named P name none (Symbol s) = none (Symbol s) (λ A go other. refl)
by_named P name none Unreadable = none Unreadable (λ A go other. refl)

-- all tokens but names
abbrev pub no_names : List ℕ
no_names = 0 ∷ 1 ∷ 2 ∷ 3 ∷ 4 ∷ 6 ∷ 7 ∷ 8 ∷ 9 ∷ 10 ∷ 11 ∷ []

pub no_name : {A : Type 0} (t : Token) (go : Name → A) (other : A) → OneOf no_names (token_tag t) → on_name t go other ≡ other
no_name t go other h =
    by_named (λ x. OneOf no_names (token_tag x) → on_name x go other ≡ other) (λ v h. absurd (miss no_names 5 tt h)) (λ x no h. no _ go other) t h
