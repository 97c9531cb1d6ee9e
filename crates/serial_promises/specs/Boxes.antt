-- The same of what a box calls: the library's three functions for the serial line, over all bytes and words that a host can lend. A
-- statement has the proof of its name, in snake case, in `proofs/Boxes.antt`.
use Rattle.std.specs.Prelude.{◌≡◌, List, map, ◌↔◌, ℕ, ◌<◌, length}
use Rattle.loader.specs.Loading.{longest_text, load_of}
use Rattle.serial.specs.Receiving.{Ended, settled, untouched}
use Rattle.serial.specs.Received.{joined}
use Rattle.host.specs.Answers.{verdict_in}
use Rattle.host.specs.Receipts.{loaded_as}
use Rattle.serial_promises.specs.Calls.{
  Kept,
  BeginBox,
  BoxBeginsAlways,
  buffer_in,
  kept_begun,
  begun_word,
  TakeBox,
  BoxTakesAlways,
  kept_before,
  kept_after,
  part_in,
  FinishBox,
  BoxFinishesAlways,
  kept_at_end,
  buffer_out,
  verdict_out,
}
use Rattle.serial_promises.specs.Cuttings.{Follow}

-- the text that comes by some calls
abbrev pub text_sent : List TakeBox → List ℕ
text_sent cs = joined (map part_in cs)

-- a box is told an end: the words of its answer, and the bytes of its buffer
pub record ToldEnd (f : FinishBox) (end : Ended) : Type 0 where
  pub verdict : verdict_out f ≡ verdict_in (loaded_as end.answer)
  pub buffer : buffer_out f ≡ end.left

-- Every call has an answer that its contract allows, whatever bytes and words are lent: any receipt, also one that no call wrote.
pub record BoxesReceiveAlwaysFacts : Type 0 where
  pub begin : BoxBeginsAlways
  pub take : BoxTakesAlways
  pub finish : BoxFinishesAlways

abbrev pub BoxesReceiveAlways : Type 0
BoxesReceiveAlways = BoxesReceiveAlwaysFacts

-- Whatever parts the text is cut into: where a box was told 0 as it began, it is told at the end what loading the whole answers, and its
-- buffer holds the text and zeros, or on a refusal zeros alone. Ruled out: a receipt whose words are read in another order than they were
-- written; a place told where the line belongs.
abbrev pub BoxesReceive : Type 0
BoxesReceive =
    (b : BeginBox) (cs : List TakeBox) (f : FinishBox) → begun_word b 0 ≡ 0
    → Follow kept_before kept_after (kept_begun b) cs (kept_at_end f)
    → ToldEnd f (settled (load_of (text_sent cs)) (text_sent cs) (length (buffer_in b)))

pub record RefusedAtOnce (b : BeginBox) : Type 0 where
  pub refused : begun_word b 0 ≡ 1
  pub numbered : begun_word b 1 ≡ 110
  pub placed : begun_word b 3 ≡ 0

-- A box is told 110 and place 0 as it begins if and only if its buffer is under 16,384 bytes.
abbrev pub BoxShortRefused : Type 0
BoxShortRefused = (b : BeginBox) → RefusedAtOnce b ↔ (length (buffer_in b) < longest_text)

-- Such a buffer is never touched, whatever words and parts are handed on after that, and the end is told as 110.
abbrev pub BoxShortUntouched : Type 0
BoxShortUntouched =
    (k : Kept) (cs : List TakeBox) (f : FinishBox) → length k.buffer < longest_text
    → Follow kept_before kept_after k cs (kept_at_end f) → ToldEnd f (untouched k.buffer)

-- What is written lies in the buffer, whatever words are handed on: it is as long as before.
pub record StaysAsLong : Type 0 where
  pub taken : (c : TakeBox) → length (kept_after c).buffer ≡ length (kept_before c).buffer
  pub finished : (f : FinishBox) → length (buffer_out f) ≡ length (kept_at_end f).buffer

abbrev pub BoxBuffersStayAsLong : Type 0
BoxBuffersStayAsLong = StaysAsLong
