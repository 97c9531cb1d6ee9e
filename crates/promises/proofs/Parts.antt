-- A string that is asked for lies in the space that is handed in.
use Rattle.std.specs.Prelude.{None, Option, Some, ℕ, Result, Ok, Err}
use mathlib.Core.Path.{◌≡◌, refl}
use mathlib.Core.Bool.{Bool, true, false, cond}
use mathlib.Core.List.{List}
use Prim.Native.Nat.{ℕ, ◌+◌, ◌≤◌}
use native.Mathlib.Omega.{arith}
use borrow.Author.Tests.{leb-true}
use lib.Dec.{leb}
use lib.ListN.{get_or, take}
use Rattle.words.specs.Names.{Telling, name_bytes, telling_of}
use Rattle.words.specs.Places.{place}
use Rattle.words.specs.declared.names.Kind.{Kind}
use Rattle.words.specs.declared.names.Kind.TheVariants as kind
use Rattle.words.specs.declared.names.Name.{Name}
use Rattle.words.specs.declared.symbols.Token.{Token}
use Rattle.words.specs.declared.symbols.Token.TheVariants as token
use Rattle.words.proofs.Choices.{by_test}
use Rattle.scanner.specs.Tokens.{token_at}
use Rattle.grammar.specs.Tests.{on_name}
use Rattle.variables.specs.Tables.{slot_in, sum_of}
use Rattle.variables.specs.declared.tables.Tables.{Tables}
use Rattle.space.specs.declared.offsets.Offset.{Offset}
use Rattle.asking.specs.Asking.{is_whole_name, string_asked, asked, ask_of}
use Rattle.asking.specs.declared.questions.Asked.{Asked}
use Rattle.asking.specs.declared.questions.Asked.TheVariants.{Whole, Text}
use Rattle.loader.specs.declared.refusals.Refusal.{Refusal}
use Rattle.loader.specs.declared.refusals.Refusal.TheVariants.{NoVariable}

-- a part that is answered ends within so many bytes; what is refused is no name
abbrev pub Inside : ℕ → Result Asked Refusal → Type 0
Inside space (Ok (Whole w)) = Unit {0}
Inside space (Ok (Text from len)) = from.0 + len ≤ space
Inside space (Err r) = r ≡ NoVariable

string_inside : (s : Option ℕ) (lengths : List ℕ) (space : ℕ) → Inside space (string_asked s lengths space)
string_inside None lengths space = omega arith
string_inside (Some i) lengths space =
    by_test (leb (sum_of (take i lengths) + get_or lengths i 0) space) (λ e. rw e (leb-true _ _ e)) (λ e. rw e refl)

kind_inside : (k : Kind) (name : Telling) (tables : Tables) (space : ℕ) → Inside space (asked k name tables space)
kind_inside kind.Whole name tables space = tt
kind_inside kind.Text name tables space = string_inside (slot_in tables.strings.names name) tables.strings.lengths space

cond_inside : (t : Bool) (space : ℕ) (a : Result Asked Refusal) → Inside space a → Inside space (cond t a (Err NoVariable))
cond_inside true space a h = h
cond_inside false space a h = refl

name_inside : (t : Token) (space : ℕ) (go : Name → Result Asked Refusal) → ((v : Name) → Inside space (go v)) → Inside space (on_name t go (Err NoVariable))
name_inside token.EndOfLine space go h = refl
name_inside (token.Keyword w) space go h = refl
name_inside token.Not space go h = refl
name_inside (token.Infix op) space go h = refl
name_inside (token.Call f) space go h = refl
name_inside (token.Named v) space go h = h v
name_inside (token.Number n) space go h = refl
name_inside (token.Hexadecimal n) space go h = refl
name_inside (token.LineOnly l) space go h = refl
name_inside (token.Quoted q) space go h = refl
name_inside (token.Symbol s) space go h = refl
name_inside token.Unreadable space go h = refl

pub ask_inside : (tables : Tables) (space : ℕ) (given : List ℕ) → Inside space (ask_of tables space given)
unfolding ask_of
ask_inside tables space given =
    name_inside (token_at given (place 0)).token space _ (λ v.
    cond_inside (is_whole_name given (token_at given (place 0)) v) space (asked v.kind (telling_of (name_bytes given v)) tables space)
    (kind_inside v.kind (telling_of (name_bytes given v)) tables space))

pub asked_inside : (tables : Tables) (space : ℕ) (given : List ℕ) (from : Offset) (len : ℕ) → ask_of tables space given ≡ Ok (Text from len)
    → from.0 + len ≤ space
asked_inside tables space given from len e = rw e at (ask_inside tables space given)
