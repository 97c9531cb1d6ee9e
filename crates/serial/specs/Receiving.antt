-- A recipe that comes over the serial line, cut at any byte, into a lent buffer: what each of the three calls answers and leaves.
use Rattle.loader.specs.declared.refusals.RefusedAt.{RefusedAt}
use Rattle.loader.specs.Refusals.{refused_at}
use Rattle.std.specs.Prelude.{Bool, cond, List, ◌++◌, ℕ, ◌+◌, ◌-◌, leb, ltb, length, take, replicate, Err, Ok, Result, None, Option, Some}
use Rattle.words.specs.Places.{place}
use Rattle.words.specs.declared.places.Place.{Place}
use Rattle.space.specs.Moves.{overlaid}
use Rattle.loader.specs.Loading.{longest_text, load_of}
use Rattle.loader.specs.declared.refusals.Refusal.{Refusal}
use Rattle.loader.specs.declared.refusals.Refusal.TheVariants.{TextTooLong, NoRoom}

-- what is kept between the calls: the receipt, which is how many bytes are held, or none of use since more came than a text may have;
-- and the bytes of the buffer
pub record Held : Type 0 where
  pub receipt : Option ℕ
  pub buffer : List ℕ

abbrev pub held : Option ℕ → List ℕ → Held
held receipt buffer = record { receipt = receipt; buffer = buffer }

-- the end: the answer, and the bytes that the buffer is left with
pub record Ended : Type 0 where
  pub answer : Result (Unit {0}) RefusedAt
  pub left : List ℕ

abbrev pub ended : Result (Unit {0}) RefusedAt → List ℕ → Ended
ended answer left = record { answer = answer; left = left }

-- ---- to begin

-- under 16,384 bytes
abbrev pub too_short : List ℕ → Bool
too_short buffer = ltb (length buffer) longest_text

-- a short buffer is refused at once with 110
unfoldable pub begun_of : List ℕ → Result (Option ℕ) RefusedAt
begun_of buffer = cond (too_short buffer) (refused_at NoRoom (place 0)) (Ok (Some 0))

-- ---- a part more

-- a part stands behind the n bytes that came before it, as long as all are at most 16,384
unfoldable pub placed : ℕ → List ℕ → List ℕ → Held
placed n buffer part =
    cond (leb (n + length part) longest_text) (held (Some (n + length part)) (overlaid buffer n part)) (held None buffer)

abbrev pub with_part : Option ℕ → List ℕ → List ℕ → Held
with_part (Some n) buffer part = placed n buffer part
with_part None buffer part = held None buffer

-- a buffer that is refused is not touched, whatever comes
unfoldable pub taken : Held → List ℕ → Held
taken h part = cond (too_short h.buffer) h (with_part h.receipt h.buffer part)

-- ---- the end

abbrev pub zeros : ℕ → List ℕ
zeros n = replicate n 0

-- on a refusal the whole buffer, of so many bytes, is zeros
abbrev pub refused_as : Refusal → Place → ℕ → Ended
refused_as refusal at room = ended (refused_at refusal at) (zeros room)

-- bytes after a text that loads are zeros
abbrev pub settled : Result (Unit {0}) RefusedAt → List ℕ → ℕ → Ended
settled (Ok _) text room = ended (Ok tt) (text ++ zeros (room - length text))
settled (Err e) text room = refused_as e.refusal e.place room

-- over 16,384 bytes: 100, even if an earlier line was at fault
abbrev pub too_long : ℕ → Ended
too_long room = refused_as TextTooLong (place 0) room

-- the first n bytes are the text; a receipt for more than a text may have is answered as such a text
unfoldable pub loaded_at : ℕ → List ℕ → Ended
loaded_at n buffer = cond (ltb longest_text n) (too_long (length buffer)) (settled (load_of (take n buffer)) (take n buffer) (length buffer))

abbrev pub at_end : Option ℕ → List ℕ → Ended
at_end (Some n) buffer = loaded_at n buffer
at_end None buffer = too_long (length buffer)

-- 110, and the buffer is as it was
abbrev pub untouched : List ℕ → Ended
untouched buffer = ended (refused_at NoRoom (place 0)) buffer

unfoldable pub finished : Held → Ended
finished h = cond (too_short h.buffer) (untouched h.buffer) (at_end h.receipt h.buffer)
