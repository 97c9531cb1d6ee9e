-- The promise of the serial line: however a text is cut, it is received as loading the whole answers.
use Rattle.loader.specs.declared.refusals.RefusedAt.{RefusedAt}
use Rattle.loader.specs.Refusals.{refused_at}
use Rattle.std.specs.Prelude.{◌≡◌, cond, List, [], ◌∷◌, ◌++◌, ℕ, ◌<◌, length, Err, Ok, Result, Option}
use Rattle.loader.specs.Loading.{longest_text, load_of}
use Rattle.serial.specs.Receiving.{Held, held, Ended, ended, too_short, begun_of, taken, settled, untouched, finished}

-- the whole of a text that comes in parts
unfoldable pub joined : List (List ℕ) → List ℕ
joined [] = []
joined (part ∷ parts) = part ++ joined parts

-- parts taken one after the other
unfoldable pub all_taken : Held → List (List ℕ) → Held
all_taken h [] = h
all_taken h (part ∷ parts) = all_taken (taken h part) parts

-- to begin, to take each part, and to finish; a refusal to begin is the answer, and the buffer is as it was
abbrev pub since_begun : Result (Option ℕ) RefusedAt → List ℕ → List (List ℕ) → Ended
since_begun (Ok receipt) buffer parts = finished (all_taken (held receipt buffer) parts)
since_begun (Err e) buffer parts = ended (refused_at e.refusal e.place) buffer

abbrev pub fed : List ℕ → List (List ℕ) → Ended
fed buffer parts = since_begun (begun_of buffer) buffer parts

-- a text received in a buffer: 110 comes before all else and leaves the buffer as it was; otherwise the answer is that of loading
-- the whole, and the buffer holds the text and zeros, or on a refusal zeros alone
unfoldable pub received_of : List ℕ → List ℕ → Ended
received_of buffer text =
    cond (too_short buffer) (untouched buffer) (settled (load_of text) text (length buffer))

-- Whatever the buffer held, and however the text is cut. Ruled out: a text that loads otherwise when byte 13 is cut from its byte 10;
-- bytes of a refused text that stay behind.
abbrev pub ReceivedIsLoaded : Type 0
ReceivedIsLoaded = (buffer : List ℕ) (parts : List (List ℕ)) → fed buffer parts ≡ received_of buffer (joined parts)

-- A buffer under 16,384 bytes is never touched, and the end answers 110, whatever receipt is handed on.
abbrev pub ShortIsNeverTouched : Type 0
ShortIsNeverTouched =
    (h : Held) (parts : List (List ℕ)) → length h.buffer < longest_text
    → (all_taken h parts ≡ h) × (finished h ≡ untouched h.buffer)

-- What is written lies in the buffer, whatever receipt is handed on, also one that no call gave: the buffer is as long as before.
abbrev pub BuffersStayAsLong : Type 0
BuffersStayAsLong =
    (h : Held) (part : List ℕ)
    → (length (taken h part).buffer ≡ length h.buffer) × (length (finished h).left ≡ length h.buffer)
