-- Asking for one variable: what the code finds beside what the definition answers.
use Rattle.std.specs.Prelude.{None, Option, Some, ℕ, Result, Ok, Err}
use mathlib.Core.Path.{◌≡◌, refl, sym, ap, ◌∙◌}
use mathlib.Core.List.{List, [], ◌∷◌}
use Prim.Native.Nat.{ℕ, ◌+◌, ◌≤◌, ◌<◌, min}
use native.Mathlib.Omega.{arith}
use borrow.Author.Tests.{eq-eqb, ne_eqb, le-leb, lt-leb}
use denote.Enum.Declared.{tag_of}
use types.Run.{OneOf, miss}
use lib.ListN.{length, get_or, take}
use Rattle.words.specs.Names.{Telling, name_bytes, telling_of}
use Rattle.words.specs.Places.{place}
use Rattle.words.specs.declared.names.Kind.{Kind}
use Rattle.words.specs.declared.names.Name.{Name}
use Rattle.words.specs.declared.symbols.Scanned.{Scanned}
use Rattle.words.specs.declared.symbols.Token.{Token}
use Rattle.words.specs.declared.symbols.Token.TheVariants as token
use Rattle.scanner.specs.Tokens.{token_at}
use Rattle.grammar.specs.Tests.{on_name}
use Rattle.variables.specs.Tables.{sum_of}
use Rattle.variables.specs.declared.tables.Tables.{Tables}
use Rattle.variables.specs.Variables.{most_variables}
use Rattle.asking.specs.Asking.{string_asked, asked, ask_of}
use Rattle.asking.specs.declared.questions.Asked.{Asked}
use Rattle.asking.specs.declared.questions.Asked.TheVariants.{Text}
use Rattle.loader.specs.declared.refusals.Refusal.{Refusal}
use Rattle.loader.specs.declared.refusals.Refusal.TheVariants.{NoVariable}

-- ---- a string, by its entry

module _ (lengths : List ℕ) (space : ℕ) where
  -- one that has none is empty
  pub string_unset : {x : Option ℕ} → x ≡ None → Ok (Text (record { 0 = 0 }) 0) ≡ string_asked x lengths space
  string_unset e = rw e

  module _ {x : Option ℕ} (i from len : ℕ) (e : x ≡ Some i) (h : i < most_variables) (f : from ≡ sum_of (take (min i most_variables) lengths)) (l : len ≡ get_or lengths i 0) where
    here : from ≡ sum_of (take i lengths)
    here = let m : min i most_variables ≡ i = omega arith in f ∙ ap (λ n. sum_of (take n lengths)) m

    -- its bytes end after the space does,
    pub string_outside : space < from + len → Err NoVariable ≡ string_asked x lengths space
    string_outside k = rw (e, ← here, ← l, lt-leb (from + len) space k)

    -- or within it
    pub string_inside : from + len ≤ space → Ok (Text (record { 0 = from }) len) ≡ string_asked x lengths space
    string_inside k = rw (e, ← here, ← l, le-leb (from + len) space k)

-- ---- what is given

-- all tokens but a name
abbrev other_tokens : List ℕ
other_tokens = 0 ∷ 1 ∷ 2 ∷ 3 ∷ 4 ∷ 6 ∷ 7 ∷ 8 ∷ 9 ∷ 10 ∷ 11 ∷ []

no_name : {A : Type 0} (t : Token) (go : Name → A) (other : A) → OneOf other_tokens (tag_of Rattle.words.specs.contracts.symbols.Token.the_type t)
    → on_name t go other ≡ other
no_name token.EndOfLine go other h = refl
no_name (token.Keyword w) go other h = refl
no_name token.Not go other h = refl
no_name (token.Infix op) go other h = refl
no_name (token.Call f) go other h = refl
no_name (token.Named v) go other h = absurd (miss other_tokens 5 tt h)
no_name (token.Number n) go other h = refl
no_name (token.Hexadecimal n) go other h = refl
no_name (token.LineOnly l) go other h = refl
no_name (token.Quoted q) go other h = refl
no_name (token.Symbol s) go other h = refl
no_name token.Unreadable go other h = refl

module _ (tables : Tables) (space : ℕ) (given : List ℕ) {t : Scanned} (s : t ≡ token_at given (place 0)) where
  -- no name begins it,
  pub ask_other : OneOf other_tokens (tag_of Rattle.words.specs.contracts.symbols.Token.the_type t.token) → Err NoVariable ≡ ask_of tables space given
  unfolding ask_of
  ask_other h = rw (← s) (sym (no_name t.token _ (Err NoVariable) h))

  -- blanks do,
  pub ask_late : {v : Name} → t.token ≡ token.Named v → (v.at ≡ 0 → ⊥) → Err NoVariable ≡ ask_of tables space given
  unfolding ask_of
  ask_late {v} e h = rw (← s, e, ne_eqb v.at 0 h)

  -- something follows it,
  pub ask_more : {v : Name} → t.token ≡ token.Named v → v.at ≡ 0 → (t.next.0 ≡ length given → ⊥) → Err NoVariable ≡ ask_of tables space given
  unfolding ask_of
  ask_more {v} e z h = rw (← s, e, eq-eqb v.at 0 z, ne_eqb t.next.0 (length given) h)

  -- or it is a name, and of its kind
  pub ask_name : {v : Name} → t.token ≡ token.Named v → v.at ≡ 0 → t.next.0 ≡ length given
      → {k : Kind} {name : Telling} {r : Result Asked Refusal} → v.kind ≡ k → name ≡ telling_of (name_bytes given v) → r ≡ asked k name tables space
      → r ≡ ask_of tables space given
  unfolding ask_of
  ask_name {v} e z n {k} {name} f g h =
      rw (← s, e, eq-eqb v.at 0 z, eq-eqb t.next.0 (length given) n)
      (h ∙ ap (λ x. asked x name tables space) (sym f) ∙ ap (λ x. asked v.kind x tables space) g)
