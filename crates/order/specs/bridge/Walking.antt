-- Bridge: how the code's spots stand to the statements of a text. Contracts between crates cite it; no demand and no promise of `run`,
-- `check_recipe` or `ask` rests on it: `Order` says which statements there are.
use Rattle.std.specs.Prelude.{◌≡◌, Bool, true, cond, not, List, [], ◌∷◌, ◌++◌, ℕ, zero, suc, ◌+◌, ◌-◌, ◌*◌, length, None, Ok, Option, Some}
use Rattle.words.specs.Places.{place}
use Rattle.words.specs.declared.places.Place.{Place}
use Rattle.words.specs.declared.symbols.Sign.TheVariants.{Colon}
use Rattle.words.specs.declared.symbols.Token.TheVariants.{Keyword}
use Rattle.words.specs.declared.symbols.Word.{Word}
use Rattle.scanner.specs.Tokens.{token_at}
use Rattle.loader.specs.Lines.{Line, lines_of, line_at, next_line}
use Rattle.loader.specs.Loading.{load_of}
use Rattle.skimming.specs.bridge.Remaining.{weight}
use Rattle.grammar.specs.Tests.{is_symbol, is_keyword}
use Rattle.grammar.specs.Trees.{Part}
use Rattle.statements.specs.Statements.{lead_of}
use Rattle.statements.specs.declared.leading.Lead.{Lead}
use Rattle.statements.specs.declared.reading.StatementRead.{StatementRead}
use Rattle.statements.specs.declared.reading.StatementRead.TheVariants as statement
use Rattle.reader.specs.Lines.{holds, judgement}
use Rattle.reader.specs.bridge.Walking.{Onto}
use Rattle.machine.specs.declared.positions.Position.{Position}
use Rattle.machine.specs.bridge.Holding.{lines_at, body_of, Begins}
use Rattle.machine.specs.Order as order
use Rattle.machine.specs.Order.{Stand, parts_held, parts_in, placed, stands, Partner, none, some}
use Rattle.order.specs.declared.partners.Bracket.{Bracket}
use Rattle.order.specs.declared.partners.Bracket.TheVariants.{Opens, Closes, Neither}
use Rattle.order.specs.declared.texts.Spot.{Spot}

-- ---- within a line

-- a line that reads and does not nest too deep
pub record Passes (s : List ℕ) : Type 0 where
  pub part : Part
  pub is : judgement s ≡ holds part

abbrev pub PassesIf : List ℕ → Bool → Type 0
PassesIf s b = cond b (Passes s) (parts_held (judgement s) ≡ [])

-- ---- in a text that loads

-- the lines from a place on are the last of its lines
pub record Reached (text : List ℕ) (p : ℕ) : Type 0 where
  pub loads : load_of text ≡ Ok tt
  pub before : List Line
  pub all : lines_of text ≡ before ++ lines_at text p

-- a line of it begins at a place
pub record Lined (text : List ℕ) (p : ℕ) : Type 0 where
  pub loads : load_of text ≡ Ok tt
  pub begins : Begins text p

-- the lines from a spot's line on
abbrev pub lines_from : List ℕ → Spot → List Line
lines_from text spot = lines_at text spot.line.place.0

-- a statement of the text stands at a spot, and from it on the text has these: of its line all but those before it, and the lines after
pub record Ahead (text : List ℕ) (spot : Spot) (xs : List Stand) : Type 0 where
  pub loads : load_of text ≡ Ok tt
  pub begins : Begins text spot.line.place.0
  pub spans : line_at text spot.line.place ≡ Some spot.line
  pub before : List Part
  pub parts : List Part
  pub whole : parts_in (lines_from text spot) ≡ before ++ parts
  pub onto : Onto (body_of (lines_from text spot)) spot.at.0 parts
  pub all : xs ≡ placed (lines_from text spot) parts ++ stands (next_line (lines_from text spot))

-- how that statement is led
abbrev pub lead_at : List ℕ → Spot → Option Lead
lead_at text spot = lead_of (body_of (lines_from text spot)) true (token_at (body_of (lines_from text spot)) spot.at)

-- a statement stands there
pub record Spotted (text : List ℕ) (spot : Spot) : Type 0 where
  pub xs : List Stand
  pub ahead : Ahead text spot xs

-- from where a walk is the text has these
abbrev pub Walks : List ℕ → Option Spot → List Stand → Type 0
Walks text (Some spot) xs = Ahead text spot xs
Walks text None xs = xs ≡ []

-- how much is left of the text; a line has at most 255 bytes, so what is left of one weighs at most 1,024
abbrev pub left_at : List ℕ → Spot → ℕ
left_at text spot =
    1032 * (length text - spot.line.place.0) + weight (body_of (lines_from text spot)) (token_at (body_of (lines_from text spot)) (place spot.at.0))

-- at most so much from where a line begins
abbrev pub left_from : List ℕ → ℕ → ℕ
left_from text p = 1032 * (length text - p) + 1024

abbrev pub left_of : List ℕ → Option Spot → ℕ
left_of text (Some spot) = left_at text spot
left_of text None = 0

-- a walk stands somewhere
pub record Walking (text : List ℕ) (w : Option Spot) : Type 0 where
  pub xs : List Stand
  pub walks : Walks text w xs

-- ---- where a run goes on after a statement

-- after a colon at what stands there; otherwise the line is over
abbrev pub past_read : Place → Option StatementRead → Position
past_read line None = record { line = line; at = line; over = true }
past_read line (Some (statement.Done own)) = record { line = line; at = own.ahead.next; over = not (is_symbol Colon own.ahead.token) }
past_read line (Some (statement.Choice own)) = record { line = line; at = line; over = true }

-- ---- partners

-- as the definition names it
abbrev pub bracket_of : Bracket → order.Bracket
bracket_of Opens = order.opens
bracket_of Closes = order.closes
bracket_of Neither = order.neither

-- by the word that leads a statement
abbrev pub marked_by : Word → Word → Option Lead → Bracket
marked_by first second None = Neither
marked_by first second (Some lead) =
    cond (is_keyword first (Keyword lead.word)) Opens (cond (is_keyword second (Keyword lead.word)) Closes Neither)

-- how many wait after a statement; or it is the partner
abbrev pub counted_by : Bracket → ℕ → Option ℕ
counted_by Opens k = Some (k + 1)
counted_by Closes zero = None
counted_by Closes (suc k) = Some k
counted_by Neither k = Some k

-- the statement at a spot, as the text has it from there on
pub record StandsAs (text : List ℕ) (spot : Spot) (x : Stand) : Type 0 where
  pub rest : List Stand
  pub ahead : Ahead text spot (x ∷ rest)

abbrev pub PartnerAs : List ℕ → Option Spot → Partner → Type 0
PartnerAs text (Some spot) (some x) = StandsAs text spot x
PartnerAs text (Some spot) none = ⊥
PartnerAs text None (some x) = ⊥
PartnerAs text None none = Unit {0}
