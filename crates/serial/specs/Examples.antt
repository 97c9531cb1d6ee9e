-- Worked examples, computed by the checker.
use Rattle.loader.specs.Refusals.{refused_at}
use Rattle.std.specs.Prelude.{◌≡◌, refl, List, [], ◌∷◌, ◌++◌, map, ℕ, replicate, Ok}
use Rattle.whole.specs.Bytes.{bytes, leading}
use Rattle.whole.specs.Digits.{is_digit, value_from}
use Rattle.words.specs.Places.{place}
use Rattle.space.specs.Moves.{overlaid}
use Rattle.loader.specs.Lines.{lines_from, number_of}
use Rattle.loader.specs.Loading.{is_plain, numbered, judged, load_lines, load_of}
use Rattle.loader.specs.declared.refusals.Refusal.TheVariants.{TextTooLong, ForeignByte, BadNumber, NoRoom}
use Rattle.serial.specs.Receiving.{Ended, ended, zeros, begun_of, placed, taken, loaded_at, finished}
use Rattle.serial.specs.Received.{all_taken, fed}

-- a buffer of so many bytes, each a letter that was there before, and the parts of a text that come into it
pub record Example : Type 0 where
  pub room : ℕ
  pub parts : List (List ℕ)
  pub end : Ended

pub letters : ℕ → List ℕ
letters n = replicate n 90

pub examples : List Example
examples =
    -- cut at any byte, also between 13 and 10, and with a part of no bytes
    record {
      room = 16384;
      parts = bytes "1" ∷ bytes "0 A\r" ∷ [] ∷ bytes "\n2" ∷ bytes "0 B" ∷ [];
      end = ended (Ok tt) (bytes "10 A\r\n20 B" ++ zeros 16374);
    }
    -- zeros to the end of a longer buffer
    ∷ record { room = 16390; parts = bytes "5" ∷ []; end = ended (Ok tt) (bytes "5" ++ zeros 16389) }
    ∷ record { room = 16384; parts = []; end = ended (Ok tt) (zeros 16384) }
    -- under 16,384: 110 at once, and the buffer is as it was
    ∷ record { room = 16383; parts = bytes "10 A\n" ∷ []; end = ended (refused_at NoRoom (place 0)) (letters 16383) }
    -- refused as loading refuses: the whole buffer is zeros
    ∷ record { room = 16387; parts = bytes "x" ∷ []; end = ended (refused_at BadNumber (place 0)) (zeros 16387) }
    ∷ record { room = 16384; parts = bytes "10\r" ∷ bytes "20\n" ∷ []; end = ended (refused_at ForeignByte (place 2)) (zeros 16384) }
    -- over 16,384: 100, even if an earlier line was at fault
    ∷ record {
      room = 16384;
      parts = bytes "x\n" ∷ replicate 16382 121 ∷ bytes "y" ∷ [];
      end = ended (refused_at TextTooLong (place 0)) (zeros 16384);
    }
    ∷ []

pub examples_hold : map (λ (e : Example). fed (letters e.room) e.parts) examples ≡ map (λ (e : Example). e.end) examples
unfolding examples letters bytes leading is_digit value_from overlaid lines_from number_of is_plain numbered judged load_lines load_of begun_of placed taken loaded_at finished all_taken
examples_hold = refl
