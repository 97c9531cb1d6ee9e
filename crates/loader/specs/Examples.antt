-- Worked examples, computed by the checker: each row of the paper's table of refusals, and texts that load.
use Rattle.loader.specs.declared.refusals.RefusedAt.{RefusedAt}
use Rattle.loader.specs.Refusals.{refused_at}
use Rattle.std.specs.Prelude.{◌≡◌, refl, List, [], ◌∷◌, ◌++◌, map, ℕ, zero, suc, ◌+◌, ◌/◌, ◌%◌, replicate, None, Ok, Result, Some}
use Prim.Native.String.{String}
use Rattle.whole.specs.Bytes.{bytes, leading}
use Rattle.whole.specs.Digits.{is_digit, value_from}
use Rattle.words.specs.Places.{place, line_number}
use Rattle.loader.specs.Lines.{lines_from, number_of, line_at, from_number, find_line}
use Rattle.loader.specs.Loading.{is_plain, numbered, judged, load_lines, load_of}
use Rattle.loader.specs.declared.refusals.Refusal.TheVariants.{
  TextTooLong,
  LineTooLong,
  ForeignByte,
  BadNumber,
  NotRising,
  TooManyLines,
}

-- lines, each ended by byte 10
abbrev joined : List String → List ℕ
joined [] = []
joined (s ∷ ss) = bytes s ++ (10 ∷ joined ss)

-- n lines that are only a number of three digits, from k on
numbered_lines : ℕ → ℕ → List ℕ
numbered_lines zero k = []
numbered_lines (suc n) k = (48 + k / 100) ∷ (48 + k / 10 % 10) ∷ (48 + k % 10) ∷ 10 ∷ numbered_lines n (suc k)

pub record Example : Type 0 where
  pub text : List ℕ
  pub answer : Result (Unit {0}) RefusedAt

infix 3 ◌loads◌
abbrev ◌loads◌ : List ℕ → Result (Unit {0}) RefusedAt → Example
t loads a = record { text = t; answer = a }

pub texts : List Example
texts =
    ([] loads (Ok tt))
    ∷ (joined ("10 A=1" ∷ "20 B=2" ∷ []) loads (Ok tt))
    -- a last line without its end; byte 13 before byte 10; leading zeros
    ∷ (bytes "10 A=1\r\n00020 B=2" loads (Ok tt))
    -- 103: over 255 bytes, the end not counted
    ∷ (bytes "1" ++ (replicate 254 32 ++ bytes "\r\n") loads (Ok tt))
    ∷ (bytes "1\n2" ++ replicate 255 32 loads refused_at LineTooLong (place 2))
    -- 104: the first byte outside 32 to 126
    ∷ (bytes "10 A\t\t" loads refused_at ForeignByte (place 4))
    ∷ (bytes "10 \rA\n" loads refused_at ForeignByte (place 3))
    ∷ (bytes "10\n20 B\r" loads refused_at ForeignByte (place 7))
    -- 101: no digit first, an empty line, a number over 65529
    ∷ (bytes "10\n A=1\n" loads refused_at BadNumber (place 3))
    ∷ (bytes "10\n\n" loads refused_at BadNumber (place 3))
    ∷ (bytes "65529\n" loads (Ok tt))
    ∷ (bytes "65530\n" loads refused_at BadNumber (place 0))
    ∷ (replicate 200 57 loads refused_at BadNumber (place 0))
    -- 102: not above the one before
    ∷ (bytes "10\n10\n" loads refused_at NotRising (place 3))
    ∷ (bytes "0\n00\n" loads refused_at NotRising (place 2))
    -- 105: a 513th line; another fault of it comes first
    ∷ (numbered_lines 512 100 loads (Ok tt))
    ∷ (numbered_lines 513 100 loads refused_at TooManyLines (place 2048))
    ∷ (numbered_lines 512 100 ++ bytes "5" loads refused_at NotRising (place 2048))
    -- 100: over 16,384 bytes, before all else
    ∷ (replicate 16385 32 loads refused_at TextTooLong (place 0))
    ∷ []

pub texts_hold : map (λ (e : Example). load_of e.text) texts ≡ map (λ (e : Example). e.answer) texts
unfolding texts numbered_lines bytes leading is_digit value_from lines_from number_of is_plain numbered judged load_lines load_of
texts_hold = refl

-- ---- finding a line

pub two : List ℕ
two = bytes "10 A\r\n020 B"

pub first_found : line_at two (place 0)
    ≡ Some (record { number = line_number 10; place = place 0; body = place 2; end = place 4; next = place 6 })
unfolding two bytes leading is_digit value_from lines_from number_of
first_found = refl

pub second_found : find_line two (line_number 20)
    ≡ Some (record { number = line_number 20; place = place 6; body = place 9; end = place 11; next = place 11 })
unfolding two bytes leading is_digit value_from lines_from number_of from_number
second_found = refl

pub none_found : find_line two (line_number 15) ≡ None
unfolding two bytes leading is_digit value_from lines_from number_of from_number
none_found = refl
