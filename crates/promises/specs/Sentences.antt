-- Sentences of document 01 that the definitions say only by what they do, said outright; no demand rests on them. A statement has the proof
-- of its name, in snake case, in `proofs/Sentences.antt`.
use Rattle.std.specs.Prelude.{◌≡◌, List, map, ℕ, ◌+◌, length}
use Rattle.words.specs.Classes.{capital_of, is_hex, hex_digit, class_of}
use Rattle.words.specs.Names.{Telling, telling_of}
use Rattle.words.specs.Vocabulary.{word_of}
use Rattle.grammar.specs.Trees.{Formula}
use Rattle.variables.specs.Strings.{Value, text, Room, value}
use Rattle.variables.specs.Variables.{bytes_of}
use Rattle.operators.specs.Values.{value_of}
use Rattle.machine.specs.Machine.{Machine, room_of, noting, printed, write}
use Rattle.turns.specs.Steps.{shown_value, with_string}

-- Letters outside quotes are folded to capitals: a letter and its capital have one class, spell one word, tell one name and are one
-- hexadecimal digit.
pub record LettersAreFoldedFacts : Type 0 where
  pub classes : (b : ℕ) → class_of (capital_of b) ≡ class_of b
  pub words : (letters : List ℕ) → word_of (map capital_of letters) ≡ word_of letters
  pub names : (letters : List ℕ) → telling_of (map capital_of letters) ≡ telling_of letters
  pub hexes : (b : ℕ) → is_hex (capital_of b) ≡ is_hex b
  pub digits : (b : ℕ) → hex_digit (capital_of b) ≡ hex_digit b

abbrev pub LettersAreFolded : Type 0
LettersAreFolded = LettersAreFoldedFacts

-- Items are worked out, printed and let go one by one: once an item is printed, as many bytes are live as before it was worked out, and no
-- string is unfinished.
pub record IsLetGo (before after : Machine) : Type 0 where
  pub live : (room_of after).live ≡ (room_of before).live
  pub unfinished : (room_of after).unfinished ≡ 0

abbrev pub PrintedItemsAreLetGo : Type 0
PrintedItemsAreLetGo =
    (f : Formula) (m n : Machine) (v : Value) (room : Room)
    → value_of f m.variables (room_of m) ≡ value v room → write (noting m room) (shown_value v) ≡ printed n → IsLetGo m n

-- Assignment hands the finished string to the variable and then lets the old one go: the string was finished while all variables, the old
-- string too, were live; after the assignment the variable holds it, nothing is unfinished, and what is live is less by the old string.
pub record HandsOver (before : Machine) (name : Telling) (string : List ℕ) (finished : Room) (after : Machine) : Type 0 where
  pub while : finished.live ≡ (room_of before).live + length string
  pub holds : bytes_of after.variables.strings name ≡ string
  pub live : (room_of after).live + length (bytes_of before.variables.strings name) ≡ finished.live
  pub unfinished : (finished.unfinished ≡ 1) × ((room_of after).unfinished ≡ 0)

abbrev pub AssignmentHandsOver : Type 0
AssignmentHandsOver =
    (f : Formula) (m : Machine) (name : Telling) (string : List ℕ) (finished : Room)
    → value_of f m.variables (room_of m) ≡ value (text string) finished
    → HandsOver m name string finished (with_string (noting m finished) name string)
