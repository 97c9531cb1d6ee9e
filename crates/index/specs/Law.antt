-- What is promised of an index: asking it answers exactly what reading the whole text would, and only a text's own is taken for it.
use Rattle.loader.specs.declared.lines.LineSpan.{LineSpan}
use Rattle.words.specs.declared.places.Place.{Place}
use Rattle.std.specs.Prelude.{◌≡◌, true, List, [], ◌∷◌, ℕ, ◌+◌, ◌≤◌, None, Ok, Option, Some}
use Rattle.words.specs.declared.places.LineNumber.{LineNumber}
use Rattle.loader.specs.Lines.{find_line}
use Rattle.loader.specs.Loading.{load_of}
use Rattle.index.specs.Callers.{callers_of}
use Rattle.index.specs.Index.{index_of, indexed_of, is_index_of}
use Rattle.index.specs.Asking.{line_in, callers_in}

-- where a line starts that was found in the text
abbrev pub start_of : Option LineSpan → Option Place
start_of (Some span) = Some span.place
start_of None = None

-- of every text that has an index, and every line number
abbrev pub AnswersAsTheText : Type 0
AnswersAsTheText =
    (text : List ℕ) (n : LineNumber) → indexed_of text ≡ Ok tt
    → (line_in (index_of text) n ≡ start_of (find_line text n)) × (callers_in (index_of text) n ≡ callers_of text n)

-- words are taken for a text's index just where they are its own
abbrev pub OwnIndexAlone : Type 0
OwnIndexAlone = (text words : List ℕ) → is_index_of text words ≡ true → (indexed_of text ≡ Ok tt) × (words ≡ index_of text)

abbrev pub OwnIndexTaken : Type 0
OwnIndexTaken = (text : List ℕ) → indexed_of text ≡ Ok tt → is_index_of text (index_of text) ≡ true

-- each of some numbers is above the one before, and the first is no less than this
abbrev pub RisesFrom : ℕ → List ℕ → Type 0
RisesFrom floor [] = Unit {0}
RisesFrom floor (n ∷ ns) = (floor ≤ n) × RisesFrom (n + 1) ns

-- the lines that name a line rise, so each is there once
abbrev pub CallersRise : Type 0
CallersRise = (text : List ℕ) (n : LineNumber) → load_of text ≡ Ok tt → RisesFrom 0 (callers_of text n)
