-- Asking for one variable after a run: not a name, or a space that ends before its bytes, is 111; an unset variable is 0 or empty; a
-- string is answered as its part of the space.
use Rattle.std.specs.Prelude.{Bool, cond, ◌&&◌, List, ℕ, ◌+◌, leb, eqb, length, get_or, take, None, Option, Some, Result, Ok, Err}
use Rattle.words.specs.Names.{Telling, name_bytes, telling_of}
use Rattle.words.specs.Places.{place}
use Rattle.words.specs.declared.names.Kind.{Kind}
use Rattle.words.specs.declared.names.Kind.TheVariants as kind
use Rattle.words.specs.declared.names.Name.{Name}
use Rattle.words.specs.declared.symbols.Scanned.{Scanned}
use Rattle.scanner.specs.Tokens.{token_at}
use Rattle.loader.specs.Refusals.{refusal_number}
use Rattle.loader.specs.declared.refusals.Refusal.{Refusal}
use Rattle.loader.specs.declared.refusals.Refusal.TheVariants.{NoVariable}
use Rattle.grammar.specs.Tests.{on_name}
use Rattle.variables.specs.Variables.{word_of}
use Rattle.variables.specs.Tables.{names_in, numbers_in, slot_in, sum_of}
use Rattle.variables.specs.declared.tables.Tables.{Tables}
use Rattle.asking.specs.declared.questions.Asked.{Asked}
use Rattle.asking.specs.declared.questions.Asked.TheVariants.{Whole, Text}

-- the whole of what is given is one name
abbrev pub is_whole_name : List ℕ → Scanned → Name → Bool
is_whole_name given t v = eqb v.at 0 && eqb t.next.0 (length given)

-- where a string stands in the space, by its entry in the table: after those before it
abbrev pub string_asked : Option ℕ → List ℕ → ℕ → Result Asked Refusal
string_asked None lengths space = Ok (Text (record { 0 = 0 }) 0)
string_asked (Some i) lengths space =
    cond (leb (sum_of (take i lengths) + get_or lengths i 0) space)
    (Ok (Text (record { 0 = sum_of (take i lengths) }) (get_or lengths i 0)))
    (Err NoVariable)

abbrev pub asked : Kind → Telling → Tables → ℕ → Result Asked Refusal
asked kind.Whole name tables space = Ok (Whole (word_of (numbers_in (names_in tables.numbers.names) tables.numbers.words) name))
asked kind.Text name tables space = string_asked (slot_in tables.strings.names name) tables.strings.lengths space

-- the tables, how many bytes of space are handed in, and what is given as a name
unfoldable pub ask_of : Tables → ℕ → List ℕ → Result Asked Refusal
ask_of tables space given =
    let t = token_at given (place 0) in
    on_name t.token (λ v. cond (is_whole_name given t v) (asked v.kind (telling_of (name_bytes given v)) tables space) (Err NoVariable)) (Err NoVariable)

-- the number of an answer: 0, or that of a refusal
abbrev pub asked_number : Result Asked Refusal → ℕ
asked_number (Ok a) = 0
asked_number (Err r) = refusal_number r
