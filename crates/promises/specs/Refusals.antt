-- What a text is refused for, row by row of the paper's table, and where. A statement has the proof of its name, in snake case, in
-- `proofs/Refusals/` (`Loading`, `Calls`, `Places`).
use Rattle.loader.specs.Refusals.{refused_at}
use Rattle.std.specs.Prelude.{◌≡◌, Bool, false, List, [], ◌∷◌, ◌++◌, ◌↔◌, ℕ, ◌+◌, ◌≤◌, ◌<◌, length, Ok, Err}
use Rattle.whole.specs.Digits.{is_digit, leading_value}
use Rattle.words.specs.Places.{place, largest_line_number, longest_line}
use Rattle.words.specs.declared.places.Place.{Place}
use Rattle.loader.specs.Lines.{Line, lines_of}
use Rattle.loader.specs.Loading.{most_lines, longest_text, load_of}
use Rattle.loader.specs.declared.refusals.Refusal.{Refusal}
use Rattle.loader.specs.declared.refusals.Refusal.TheVariants.{
  NoVariable,
  SpaceTooLong,
  StackTooLong,
  TextTooLong,
  LineTooLong,
  ForeignByte,
  BadNumber,
  NotRising,
  TooManyLines,
  ShortGroup,
  TooManyPairs,
  NoRoom,
}
use Rattle.variables.specs.Strings.{longest_space}
use Rattle.machine.specs.Machine.{Lent, most_records}
use Rattle.checker.specs.declared.checking.Fault.TheVariants as verdict
use Rattle.runner.specs.declared.running.Outcome.TheVariants as outcome
use Rattle.promises.specs.Calls.{RunCall, text_of, lent_of, CheckCall, recipe_of}

-- ---- the rows of a line, each by itself

abbrev pub Plain : ℕ → Type 0
Plain b = (32 ≤ b) × (b ≤ 126)

unfoldable pub AllPlain : List ℕ → Type 0
AllPlain [] = Unit {0}
AllPlain (b ∷ s) = Plain b × AllPlain s

abbrev pub begins_with_digit : List ℕ → Bool
begins_with_digit [] = false
begins_with_digit (b ∷ s) = is_digit b

-- given when, and the place; `before` are the lines that stand before the line
pub data Applies (before : List Line) (line : Line) : Refusal → Place → Type 0 where
  -- 103: line over 255 bytes, its end not counted; the line's first byte
  too_long : longest_line < length line.bytes → Applies before line LineTooLong (place line.start)
  -- 104: a byte outside 32 to 126 in a line; that byte, the first such
  foreign : (front : List ℕ) (b : ℕ) (back : List ℕ) → line.bytes ≡ front ++ (b ∷ back) → AllPlain front → (Plain b → ⊥)
      → Applies before line ForeignByte (place (line.start + length front))
  -- 101: line does not begin with a digit, or number over 65529; the line's first byte
  unnumbered : begins_with_digit line.bytes ≡ false → Applies before line BadNumber (place line.start)
  number_too_large : largest_line_number < leading_value line.bytes → Applies before line BadNumber (place line.start)
  -- 102: number not above the one before; the line's first byte
  not_rising : (earlier : List Line) (last : Line) → before ≡ earlier ++ (last ∷ []) → leading_value line.bytes ≤ leading_value last.bytes
      → Applies before line NotRising (place line.start)
  -- 105: a 513th line; the line's first byte
  too_many : most_lines ≤ length before → Applies before line TooManyLines (place line.start)

-- ---- in the table's order, line by line

-- where a row stands in the table; 108, of a file that ends in a short group, 109, of a text with too many pairs for an index, and 110, of room
-- that is too short, are tools' and no rows of it
abbrev pub row_of : Refusal → ℕ
row_of ShortGroup = 0
row_of TooManyPairs = 0
row_of NoRoom = 0
row_of NoVariable = 1
row_of SpaceTooLong = 2
row_of StackTooLong = 3
row_of TextTooLong = 4
row_of LineTooLong = 5
row_of ForeignByte = 6
row_of BadNumber = 7
row_of NotRising = 8
row_of TooManyLines = 9

abbrev pub NoneApplies : List Line → Line → Type 0
NoneApplies before line = (r : Refusal) (p : Place) → Applies before line r p → ⊥

-- no row applies to any of some lines, which stand after others
unfoldable pub NoneAmong : List Line → List Line → Type 0
NoneAmong before [] = Unit {0}
NoneAmong before (l ∷ ls) = NoneApplies before l × NoneAmong (before ++ (l ∷ [])) ls

-- the first line to which a row applies, and the first row that does
pub record FirstRow (text : List ℕ) (r : Refusal) (p : Place) : Type 0 where
  pub before : List Line
  pub line : Line
  pub after : List Line
  pub lines : lines_of text ≡ before ++ (line ∷ after)
  pub earlier : NoneAmong [] before
  pub applies : Applies before line r p
  pub above : (s : Refusal) (q : Place) → Applies before line s q → row_of r ≤ row_of s

pub data RefusedByTable (text : List ℕ) : Refusal → Place → Type 0 where
  -- 100: text over 16,384 bytes; 0
  text_too_long : longest_text < length text → RefusedByTable text TextTooLong (place 0)
  -- the last five, line by line
  by_line : {r : Refusal} {p : Place} → length text ≤ longest_text → FirstRow text r p → RefusedByTable text r p

pub record PassesTable (text : List ℕ) : Type 0 where
  pub short : length text ≤ longest_text
  pub lines : NoneAmong [] (lines_of text)

-- ---- loading is the table

pub record LoadsByTableFacts (text : List ℕ) : Type 0 where
  pub refused : (r : Refusal) (p : Place) → (load_of text ≡ refused_at r p) ↔ RefusedByTable text r p
  pub fine : (load_of text ≡ Ok tt) ↔ PassesTable text

-- Loading refuses a text with a number and a place if and only if the table does: 100 first, and then the first line to which a row applies,
-- by the first such row; and it takes a text if and only if no row applies. What the lines of a text are is `lines_of`. Ruled out: a loader that
-- tests all lines for 103 before any for 104; one that gives a line of 256 bytes that holds a byte 9 as 104; one that tells a 513th line that
-- does not rise as 105.
abbrev pub LoadsByTable : Type 0
LoadsByTable = (text : List ℕ) → LoadsByTableFacts text

-- ---- so are the refusals of calls

-- 106: string space over 16,384 bytes (run only), at 0; 107: over 256 records (run only), at 0; else by the text
pub data RunRefused (text : List ℕ) (lent : Lent) : Refusal → Place → Type 0 where
  space_too_long : longest_space < lent.space → RunRefused text lent SpaceTooLong (place 0)
  stack_too_long : lent.space ≤ longest_space → most_records < lent.records → RunRefused text lent StackTooLong (place 0)
  by_text : {r : Refusal} {p : Place} → lent.space ≤ longest_space → lent.records ≤ most_records → RefusedByTable text r p → RunRefused text lent r p

pub record CallsRefuseByTableFacts : Type 0 where
  pub runs : (c : RunCall) (r : Refusal) (p : Place) → (c.answer.outcome ≡ outcome.Refused r p) ↔ RunRefused (text_of c) (lent_of c) r p
  pub checks : (c : CheckCall) (r : Refusal) (p : Place) → (c.answer ≡ Err (verdict.Refused r p)) ↔ RefusedByTable (recipe_of c) r p

-- `run` and `check_recipe` refuse with a number and a place if and only if the table does, and so in no other case. It says nothing of what is
-- lent: `RefusalsChangeNothing` does; 111 is `ask`'s. Ruled out: a check that refuses a recipe for a string space; a run that tests its text
-- before its string space, and says 100 where both are too long.
abbrev pub CallsRefuseByTable : Type 0
CallsRefuseByTable = CallsRefuseByTableFacts

-- ---- and their places are places of the text

-- the line's bytes stand in the text, the first at the line's place
pub record LiesIn (text : List ℕ) (line : Line) : Type 0 where
  pub before : List ℕ
  pub after : List ℕ
  pub there : text ≡ before ++ (line.bytes ++ after)
  pub place : length before ≡ line.start

-- The bytes of each line stand in the text from the line's place on, so that a line's first byte, and the first foreign byte in it, are where the
-- table says. It does not say that every byte of a text is in a line: ends of lines are in none. Ruled out: a loader that counts places in the
-- text without its bytes 13; one that counts from 1.
abbrev pub LinesLieInText : Type 0
LinesLieInText = (text : List ℕ) (before : List Line) (line : Line) (after : List Line) → lines_of text ≡ before ++ (line ∷ after) → LiesIn text line
