-- Worked examples, computed by the checker: the request's own, and each way in which editions are alike or differ.
use Rattle.std.specs.Prelude.{◌≡◌, refl, List, [], ◌∷◌, ◌++◌, map, ℕ, length, replicate, Err, Ok, Result}
use Rattle.whole.specs.Bytes.{bytes, leading}
use Rattle.whole.specs.Digits.{is_digit, value_from}
use Rattle.whole.specs.Texts.{places, trimmed, digit_byte, numeral}
use Rattle.words.specs.Places.{place}
use Rattle.words.specs.Spellings.{same_bytes}
use Rattle.loader.specs.Lines.{lines_from, number_of}
use Rattle.loader.specs.Loading.{is_plain, numbered, judged, load_lines, load_of}
use Rattle.loader.specs.declared.refusals.Refusal.TheVariants.{TextTooLong, BadNumber, NotRising}
use Rattle.compare.specs.Differences.{against, differences}
use Rattle.compare.specs.Records.{record_of, records_of, report_of}
use Rattle.loader.specs.declared.refusals.Refusal.{Refusal}
use Rattle.loader.specs.declared.refusals.RefusedAt.{RefusedAt}
use Rattle.compare.specs.Comparing.{no_room, compared_of, out_after}
use Rattle.compare.specs.declared.comparing.Rejected.{Rejected}
use Rattle.compare.specs.declared.comparing.Rejected.TheVariants.{Old, New}

-- ---- the request's own

pub old : List ℕ
old = bytes "10 A=1\n20 END\n30 STOP\n"

pub new : List ℕ
new = bytes "010 A=1\n20 STOP\n40 END\n"

pub request_holds : report_of old new ≡ bytes "changed\t20\ngone\t30\nnew\t40\n"
unfolding old new bytes leading is_digit value_from places trimmed digit_byte numeral same_bytes lines_from number_of against differences record_of records_of
request_holds = refl

-- ---- two texts, the room, the answer and the room after it

pub record Example : Type 0 where
  pub old : List ℕ
  pub new : List ℕ
  pub out : List ℕ
  pub answer : Result ℕ Rejected
  pub after : List ℕ

-- in a room of so many bytes 1: an answer that leaves it as it was, and one that writes
abbrev refused : List ℕ → List ℕ → ℕ → Rejected → Example
refused old new room why =
    record { old = old; new = new; out = replicate room 1; answer = Err why; after = replicate room 1 }

abbrev at_place : Refusal → ℕ → RefusedAt
at_place refusal p = record { refusal = refusal; place = place p }

abbrev reported : List ℕ → List ℕ → ℕ → ℕ → List ℕ → Example
reported old new room count after =
    record { old = old; new = new; out = replicate room 1; answer = Ok count; after = after }

pub examples : List Example
examples =
    -- what stands behind the records stays; the room exact, and one byte less
    reported old new 28 26 (bytes "changed\t20\ngone\t30\nnew\t40\n" ++ (1 ∷ 1 ∷ []))
    ∷ reported old new 26 26 (bytes "changed\t20\ngone\t30\nnew\t40\n")
    ∷ refused old new 25 no_room
    -- equal editions: leading zeros, a byte 13, the last end don't count
    ∷ reported (bytes "10 A\n20\n") (bytes "10 A\r\n0020") 2 0 (1 ∷ 1 ∷ [])
    ∷ reported [] [] 0 0 []
    -- blanks and the letters' case do
    ∷ reported (bytes "10 A") (bytes "10A") 11 11 (bytes "changed\t10\n")
    ∷ reported (bytes "10 A") (bytes "10 a") 11 11 (bytes "changed\t10\n")
    -- one edition empty; the smallest number and the largest
    ∷ reported [] (bytes "000 A\n65529 B\n") 16 16 (bytes "new\t0\nnew\t65529\n")
    ∷ reported (bytes "0 A\n65529 B\n") [] 18 18 (bytes "gone\t0\ngone\t65529\n")
    -- refusals of loading come before 110, the old looked at first
    ∷ refused (bytes "x") (bytes "\n") 9 (Old (at_place BadNumber 0))
    ∷ refused (bytes "10\n\n") (bytes "x") 9 (Old (at_place BadNumber 3))
    ∷ refused (bytes "10\n") (bytes "10\n10\n") 0 (New (at_place NotRising 3))
    ∷ refused [] (replicate 16385 32) 0 (New (at_place TextTooLong 0))
    ∷ []

pub answers_hold : map (λ (e : Example). compared_of e.old e.new (length e.out)) examples ≡ map (λ (e : Example). e.answer) examples
unfolding examples old new bytes leading is_digit value_from places trimmed digit_byte numeral same_bytes lines_from number_of is_plain numbered judged load_lines load_of against differences record_of records_of compared_of
answers_hold = refl

pub rooms_hold : map (λ (e : Example). out_after e.old e.new e.out) examples ≡ map (λ (e : Example). e.after) examples
unfolding examples old new bytes leading is_digit value_from places trimmed digit_byte numeral same_bytes lines_from number_of is_plain numbered judged load_lines load_of against differences record_of records_of compared_of out_after
rooms_hold = refl
