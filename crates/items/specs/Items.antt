-- The items of a DATA statement: parted by commas, quoted or bare, read by bytes and not by tokens.
use Rattle.std.specs.Prelude.{Bool, true, false, not, cond, ◌||◌, List, [], ◌∷◌, ℕ, zero, suc, ◌+◌, ltb, length, get_or, take, drop, None, Option, Some}
use Rattle.whole.specs.Bytes.{is, leading}
use Rattle.whole.specs.Digits.{blanks_of}
use Rattle.words.specs.Places.{place}
use Rattle.scanner.specs.Runs.{in_item}
use Rattle.items.specs.declared.reading.Item.{Item}

-- ---- one item

-- the bytes of an item
abbrev pub item_bytes : List ℕ → Item → List ℕ
item_bytes line i = take i.len (drop i.from.0 line)

-- an item of n bytes from a place on, whose end stands at another; after a comma comes one more
abbrev pub read : ℕ → ℕ → ℕ → Bool → Option Item
read from n end more = Some (record { from = place from; len = n; end = place end; more = more })

-- what ends an item: a comma, a colon, an apostrophe, or the line's end
abbrev pub ended_by : List ℕ → ℕ → ℕ → ℕ → Option Item
ended_by [] from n end = read from n end false
ended_by (b ∷ s) from n end =
    cond (is "," b) (read from n end true) (cond (is ":" b || is "'" b) (read from n end false) None)

unfoldable pub ended : List ℕ → ℕ → ℕ → ℕ → Option Item
ended line from n end = ended_by (drop end line) from n end

-- the place after the blanks that stand at a place
abbrev pub after_blanks : List ℕ → ℕ → ℕ
after_blanks line i = i + blanks_of (drop i line)

-- a quoted item runs from its quote to the next, which must stand; only blanks may follow before its end
unfoldable pub quoted_item : List ℕ → ℕ → Option Item
quoted_item line quote =
    let text = leading (λ b. not (is "\"" b)) (drop (quote + 1) line) in
    let close = quote + 1 + length text in
    cond (ltb close (length line)) (ended line (quote + 1) (length text) (after_blanks line (close + 1))) None

-- a byte before others whose last blanks are cut: a blank with nothing after it goes
abbrev pub kept_before : ℕ → List ℕ → List ℕ
kept_before b [] = cond (is " " b) [] (b ∷ [])
kept_before b (c ∷ s) = b ∷ c ∷ s

-- bytes without the blanks at their end
unfoldable pub cut : List ℕ → List ℕ
cut [] = []
cut (b ∷ s) = kept_before b (cut s)

-- a bare item runs to its end, and no quote stands in it; letters are as written, and ELSE is text
unfoldable pub bare_item : List ℕ → ℕ → Option Item
bare_item line first =
    let text = leading in_item (drop first line) in
    ended line first (length (cut text)) (first + length text)

-- the item at a place of a line, blanks skipped; an empty one is the empty text
unfoldable pub item_at : List ℕ → ℕ → Option Item
item_at line at =
    let i = after_blanks line at in
    cond (is "\"" (get_or line i 0)) (quoted_item line i) (bare_item line i)

-- ---- all items of a statement

-- what they are and the place of what ends the last; or one of them does not read
pub data DataItems : Type 0 where
  bad : DataItems
  items : List (List ℕ) → ℕ → DataItems

abbrev pub with_item : List ℕ → DataItems → DataItems
with_item b bad = bad
with_item b (items l end) = items (b ∷ l) end

-- after a comma come the others
abbrev pub if_more : Bool → ℕ → (ℕ → DataItems) → DataItems
if_more true end others = others (end + 1)
if_more false end others = items [] end

-- an item, and those after its comma
abbrev pub and_more : List ℕ → Option Item → (ℕ → DataItems) → DataItems
and_more line None others = bad
and_more line (Some i) others = with_item (item_bytes line i) (if_more i.more i.end.0 others)

-- the items from a place on, at most n
unfoldable pub items_at : ℕ → List ℕ → ℕ → DataItems
items_at zero line at = bad
items_at (suc n) line at = and_more line (item_at line at) (items_at n line)

-- all: a line has no more items than bytes, and one
abbrev pub items_from : List ℕ → ℕ → DataItems
items_from line at = items_at (suc (length line)) line at
