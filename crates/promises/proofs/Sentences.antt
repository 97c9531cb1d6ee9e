-- The sentences that the definitions imply.
use mathlib.Core.Path.{◌≡◌, refl, sym, ap, ◌∙◌}
use mathlib.Core.Bool.{true, false, ◌&&◌}
use mathlib.Core.List.{List, [], ◌∷◌, ◌++◌, map}
use Prim.Native.Nat.{ℕ, ◌+◌, ◌≤◌}
use native.Mathlib.Omega.{arith}
use borrow.Author.Tests.{le-leb, lt-leb, leb-true}
use lib.Dec.{leb, ltb}
use lib.ListN.{length}
use Rattle.whole.proofs.Never.{never}
use Rattle.whole.specs.Digits.{is_digit}
use Rattle.words.specs.Spellings.{meaning}
use Rattle.words.specs.Classes.{capital_of, is_letter, is_hex, hex_digit, class_of}
use Rattle.words.specs.Names.{Telling, telling, telling_of, alike}
use Rattle.words.specs.Vocabulary.{reserved}
use Rattle.words.specs.declared.vocabulary.WordFound.TheVariants.{Free}
use Rattle.words.proofs.Choices.{by_test, both}
use Rattle.variables.proofs.Names.{alike_self}
use Rattle.variables.specs.Strings.{text, Room, value}
use Rattle.variables.specs.Variables.{StringVariable, bytes_of, set_string}
use Rattle.machine.specs.Machine.{Machine, room_of, noting, with_output, column_after, Printed, full, printed, write}
use Rattle.turns.specs.Steps.{shown_value}
use Rattle.promises.specs.Sentences.{LettersAreFolded, PrintedItemsAreLetGo, AssignmentHandsOver}
use Rattle.promises.specs.Unfinished.{ByValue}
use Rattle.promises.proofs.Waiting.Needs.{live_is_exact}

-- ---- letters

-- a small letter is 32 above its capital
small : (b : ℕ) → leb 97 b && leb b 122 ≡ true → (97 ≤ b) × ((b ≤ 122) × (capital_of b + 32 ≡ b))
unfolding capital_of
small b e =
    let h = both (leb 97 b) (leb b 122) e in
    let low = leb-true 97 b h.0 in
    let high = leb-true b 122 h.1 in
    (low, (high, rw e (omega arith)))

-- any other byte is its own capital
other : (b : ℕ) → leb 97 b && leb b 122 ≡ false → capital_of b ≡ b
unfolding capital_of
other b e = rw e

-- and so is a capital
capital_twice : (b : ℕ) → capital_of (capital_of b) ≡ capital_of b
capital_twice b =
    by_test (leb 97 b && leb b 122)
    (λ e. let h = small b e in other (capital_of b) (rw (lt-leb 97 (capital_of b) (omega arith))))
    (λ e. ap capital_of (other b e))

capitals_twice : (s : List ℕ) → map capital_of (map capital_of s) ≡ map capital_of s
capitals_twice [] = refl
capitals_twice (b ∷ s) = rw (capital_twice b, capitals_twice s)

capital_letter : (b : ℕ) → is_letter (capital_of b) ≡ is_letter b
unfolding is_letter
capital_letter b = rw (capital_twice b)

small_letter : (b : ℕ) → leb 97 b && leb b 122 ≡ true → is_letter b ≡ true
unfolding is_letter
small_letter b e = let h = small b e in rw (le-leb 65 (capital_of b) (omega arith), le-leb (capital_of b) 90 (omega arith))

letter_classes : (a b : ℕ) → is_letter a ≡ true → is_letter b ≡ true → class_of a ≡ class_of b
unfolding class_of
letter_classes a b e f = rw (e, f)

classes : (b : ℕ) → class_of (capital_of b) ≡ class_of b
classes b =
    by_test (leb 97 b && leb b 122)
    (λ e. letter_classes (capital_of b) b (capital_letter b ∙ small_letter b e) (small_letter b e))
    (λ e. ap class_of (other b e))

-- letters are no decimal digits
no_digit : (b : ℕ) → 58 ≤ b → is_digit b ≡ false
unfolding is_digit
no_digit b h = rw (le-leb 48 b (omega arith), lt-leb b 57 (omega arith))

capital_digit : (b : ℕ) → is_digit (capital_of b) ≡ is_digit b
capital_digit b =
    by_test (leb 97 b && leb b 122)
    (λ e. let h = small b e in no_digit (capital_of b) (omega arith) ∙ sym (no_digit b (omega arith)))
    (λ e. ap is_digit (other b e))

hexes : (b : ℕ) → is_hex (capital_of b) ≡ is_hex b
unfolding is_hex
hexes b = rw (capital_digit b, capital_twice b)

digits : (b : ℕ) → hex_digit (capital_of b) ≡ hex_digit b
unfolding hex_digit
digits b =
    by_test (leb 97 b && leb b 122)
    (λ e. let h = small b e in rw (no_digit b (omega arith), no_digit (capital_of b) (omega arith), capital_twice b))
    (λ e. ap hex_digit (other b e))

names : (letters : List ℕ) → telling_of (map capital_of letters) ≡ telling_of letters
unfolding telling_of
names letters = ap telling (capitals_twice letters)

pub letters_are_folded : LettersAreFolded
letters_are_folded = record {
  classes = classes;
  words = λ letters. ap (λ s. meaning reserved Free s) (capitals_twice letters);
  names = names;
  hexes = hexes;
  digits = digits;
}

-- ---- items

full_unlike : {m : Machine} → ◌≡◌ {A = Printed} full (printed m) → ⊥
full_unlike e = never (cc)

-- the machine that has noted a room and printed some bytes
abbrev after : Machine → Room → List ℕ → Machine
after m room bytes = with_output (noting m room) (m.output ++ bytes) (column_after m.column bytes)

pub printed_items_are_let_go : PrintedItemsAreLetGo
unfolding write
printed_items_are_let_go f m n v room e w =
    by_test (ltb m.output_room (length m.output + length (shown_value v)))
    (λ t. absurd (full_unlike (rw t at w)))
    (λ t.
    let k : printed (after m room (shown_value v)) ≡ printed n = rw t at w in
    let z : after m room (shown_value v) ≡ n = cc in
    record { live = ap (λ (x : Machine). (room_of x).live) (sym z); unfinished = refl })

-- ---- assignment

-- a variable that is set reads as what it was set to
set_reads : (vs : List StringVariable) (name : Telling) (b : List ℕ) → bytes_of (set_string vs name b) name ≡ b
unfolding bytes_of set_string
set_reads [] name b = rw (alike_self name)
set_reads (v ∷ vs) name b = by_test (alike v.name name) (λ t. rw t (rw t)) (λ t. rw t (rw t (set_reads vs name b)))

pub assignment_hands_over : AssignmentHandsOver
assignment_hands_over f m name string finished e =
    let grown : ByValue (room_of m) (value (text string) finished) = rw e at (live_is_exact.formulas f m.variables (room_of m)) in
    record {
      while = grown.live;
      holds = set_reads m.variables.strings name string;
      live = live_is_exact.assignments m.variables.strings name string ∙ sym grown.live;
      unfinished = (grown.unfinished, refl);
    }
