-- Worked examples, computed by the checker: the items of a line that begins with DATA.
use Rattle.std.specs.Prelude.{◌≡◌, refl, List, [], ◌∷◌, map, ℕ}
use Prim.Native.String.{String}
use Rattle.whole.specs.Bytes.{bytes, leading}
use Rattle.items.specs.Items.{ended, quoted_item, cut, bare_item, item_at, DataItems, bad, items, items_at, items_from}

-- a line, and what its items are
pub record Example : Type 0 where
  pub line : String
  pub listed : DataItems

infix 3 ◌lists◌upto◌
abbrev ◌lists◌upto◌ : String → List String → ℕ → Example
s lists l upto n = record { line = s; listed = items (map bytes l) n }

abbrev fails : String → Example
fails s = record { line = s; listed = bad }

pub lines : List Example
lines =
    -- an empty item is the empty text
    ("DATA" lists "" ∷ [] upto 4)
    ∷ ("DATA 1," lists "1" ∷ "" ∷ [] upto 7)
    ∷ ("DATA,," lists "" ∷ "" ∷ "" ∷ [] upto 6)
    ∷ ("DATA  : '" lists "" ∷ [] upto 6)
    -- outer blanks of a bare item are cut
    ∷ ("DATA A B , \"C:D\" ,'x" lists "A B" ∷ "C:D" ∷ "" ∷ [] upto 18)
    ∷ ("DATA \" 7 \"" lists " 7 " ∷ [] upto 10)
    ∷ ("DATA \"\"  :END" lists "" ∷ [] upto 9)
    -- more than blanks after a quoted item, a quote in a bare one, one that is not closed
    ∷ fails "DATA \"A\"B"
    ∷ fails "DATA 1,\"A\" B"
    ∷ fails "DATA A\"B"
    ∷ fails "DATA A\"B\""
    ∷ fails "DATA \"A"
    ∷ fails "DATA 1,\""
    -- ELSE and REM are text, and letters are as written
    ∷ ("DATA 1 ELSE 2" lists "1 ELSE 2" ∷ [] upto 13)
    ∷ ("DATA REM X,2" lists "REM X" ∷ "2" ∷ [] upto 12)
    ∷ ("DATA a,B" lists "a" ∷ "B" ∷ [] upto 8)
    -- a colon and an apostrophe end the statement
    ∷ ("DATA 1:PRINT" lists "1" ∷ [] upto 6)
    ∷ ("DATA 1 'soak, \"" lists "1" ∷ [] upto 7)
    ∷ ("DATA+5,-32768" lists "+5" ∷ "-32768" ∷ [] upto 13)
    ∷ []

pub lines_hold : map (λ (e : Example). items_from (bytes e.line) 4) lines ≡ map (λ (e : Example). e.listed) lines
unfolding lines bytes leading ended quoted_item cut bare_item item_at items_at
lines_hold = refl
