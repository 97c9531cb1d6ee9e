-- A recipe over the serial line, as statements about every call of the code. A statement has the proof of its name, in snake case, in
-- `proofs/Cuttings.antt`.
use Rattle.loader.specs.Refusals.{refused_at}
use Rattle.std.specs.Prelude.{◌≡◌, List, [], ◌∷◌, map, ◌↔◌, ℕ, ◌<◌, length, Ok, Option}
use Rattle.words.specs.Places.{place}
use Rattle.loader.specs.Loading.{longest_text, load_of}
use Rattle.loader.specs.declared.refusals.Refusal.TheVariants.{NoRoom}
use Rattle.serial.specs.Receiving.{Held, held, settled, untouched}
use Rattle.serial.specs.Received.{joined}
use Rattle.serial_promises.specs.Calls.{
  BeginCall,
  BeginsAlways,
  buffer_begun,
  TakeCall,
  TakesAlways,
  held_before,
  held_after,
  part_of,
  FinishCall,
  FinishesAlways,
  held_at_end,
  end_of,
}

-- each call is passed what the one before it left, the first h, and the last leaves e
unfoldable pub Follow : {State Calls : Type 0} → (Calls → State) → (Calls → State) → State → List Calls → State → Type 0
Follow before after h [] e = h ≡ e
Follow before after h (c ∷ cs) e = (before c ≡ h) × Follow before after (after c) cs e

-- the text that comes by some calls
abbrev pub text_of : List TakeCall → List ℕ
text_of cs = joined (map part_of cs)

-- Every call has an answer that its contract allows, whatever is passed: any receipt, also one that `begin` did not give.
pub record ReceivesAlwaysFacts : Type 0 where
  pub begin : BeginsAlways
  pub take : TakesAlways
  pub finish : FinishesAlways

abbrev pub ReceivesAlways : Type 0
ReceivesAlways = ReceivesAlwaysFacts

-- Whatever parts the text is cut into: begun, taken and finished, it is answered as loading the whole, and the buffer holds the text and
-- zeros, or on a refusal zeros alone. Ruled out: a text that loads otherwise when byte 13 is cut from its byte 10; bytes of a refused text
-- that stay behind.
abbrev pub CallsReceive : Type 0
CallsReceive =
    (b : BeginCall) (cs : List TakeCall) (f : FinishCall) (receipt : Option ℕ)
    → b.answer ≡ Ok receipt → Follow held_before held_after (held receipt (buffer_begun b)) cs (held_at_end f)
    → end_of f ≡ settled (load_of (text_of cs)) (text_of cs) (length (buffer_begun b))

-- A buffer is refused at once, with 110 and place 0, if and only if it is under 16,384 bytes.
abbrev pub ShortRefused : Type 0
ShortRefused = (b : BeginCall) → (b.answer ≡ refused_at NoRoom (place 0)) ↔ (length (buffer_begun b) < longest_text)

-- Such a buffer is never touched, whatever is handed on after that, and the end answers 110.
abbrev pub ShortUntouched : Type 0
ShortUntouched =
    (h : Held) (cs : List TakeCall) (f : FinishCall) → length h.buffer < longest_text
    → Follow held_before held_after h cs (held_at_end f) → end_of f ≡ untouched h.buffer
