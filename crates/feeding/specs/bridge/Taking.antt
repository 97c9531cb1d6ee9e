-- Bridge: the next item of a text by where the items go on: how the code finds and takes it.
-- The contracts of functions that crates use among themselves cite it; no demand and no promise of run, check_recipe or ask rests on it.
use Rattle.statements.specs.Statements.{led_by}
use Rattle.order.specs.declared.texts.Spot.{Spot}
use Rattle.std.specs.Prelude.{◌≡◌, true, cond, List, [], ◌∷◌, ℕ, ◌+◌, ◌≤◌, length, take, drop, None, Ok, Option, Some}
use Rattle.words.specs.Places.{place, longest_line}
use Rattle.words.specs.declared.places.Place.{Place}
use Rattle.words.specs.declared.symbols.Scanned.{Scanned}
use Rattle.words.specs.declared.symbols.Word.TheVariants.{Data}
use Rattle.scanner.specs.Tokens.{token_at}
use Rattle.items.specs.declared.reading.Item.{Item}
use Rattle.loader.specs.Lines.{line_at}
use Rattle.loader.specs.Loading.{load_of}
use Rattle.loader.specs.declared.lines.LineSpan.{LineSpan}
use Rattle.statements.specs.declared.leading.Lead.{Lead}
use Rattle.machine.specs.Order.{Stand}
use Rattle.machine.specs.Items.{items_of}
use Rattle.machine.specs.bridge.Holding.{feed_after, Outside, Inside, Feeds, Fed}
use Rattle.machine.specs.declared.state.Feed.{Feed}
use Rattle.order.specs.bridge.Walking.{Walks}

-- ---- what the code is asked

-- a text that loads, and items that go on there
pub record Feedable (text : List ℕ) (f : Feed) : Type 0 where
  pub loads : load_of text ≡ Ok tt
  pub fed : Fed text f

-- the same outside of a DATA statement, and inside of one in a line that has this span
pub record Walkable (text : List ℕ) (f : Feed) : Type 0 where
  pub loads : load_of text ≡ Ok tt
  pub some : List (List ℕ)
  pub outside : Outside text f.line.0 f.at.0 some

pub record Takeable (text : List ℕ) (line : LineSpan) (at : ℕ) : Type 0 where
  pub loads : load_of text ≡ Ok tt
  pub is : line_at text line.place ≡ Some line
  pub some : List (List ℕ)
  pub inside : Inside text line.place.0 at some

-- ---- what it finds

-- a statement that is led so is a DATA statement, whose items begin there; or it is another
pub record LedByData (lead : Option Lead) (at : Place) : Type 0 where
  pub token : Scanned
  pub is : lead ≡ led_by Data token
  pub ends : at ≡ token.next

abbrev pub ItemsLed : Option Lead → Option Place → Type 0
ItemsLed lead (Some at) = LedByData lead at
ItemsLed lead None = (t : Scanned) → lead ≡ led_by Data t → ⊥

-- a walk over statements that have these items
pub record WalksOver (text : List ℕ) (w : Option Spot) (l : List (List ℕ)) : Type 0 where
  pub xs : List Stand
  pub walks : Walks text w xs
  pub all : l ≡ items_of xs

-- where the first of these begins, if there is one
abbrev pub SoughtAs : List ℕ → Option (LineSpan × Place) → List (List ℕ) → Type 0
SoughtAs text (Some (line, at)) l = (line_at text line.place ≡ Some line) × Inside text line.place.0 at.0 l
SoughtAs text None l = l ≡ []

-- ---- what it takes

-- where the items go on after one of a line
abbrev pub feed_of : List ℕ → LineSpan → Item → Feed
feed_of body line i =
    cond i.more (record { line = line.place; at = place (i.end.0 + 1); inside = true })
    (feed_after line.place line.next (token_at body i.end))

-- the first of these stands in the text, and the others go on there
pub record Took (text : List ℕ) (from : Place) (len : ℕ) (f : Feed) (l : List (List ℕ)) : Type 0 where
  pub others : List (List ℕ)
  pub all : l ≡ take len (drop from.0 text) ∷ others
  pub feeds : Feeds text f others
  pub within : from.0 + len ≤ length text
  pub short : len ≤ longest_line

abbrev pub TakenAs : List ℕ → Option (Place × ℕ × Feed) → List (List ℕ) → Type 0
TakenAs text None l = l ≡ []
TakenAs text (Some (from, len, f)) l = Took text from len f l
