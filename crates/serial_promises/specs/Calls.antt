-- Calls of `begin`, `take` and `finish`, and of the library's three functions for them: what was passed, and what lent memory holds before
-- and after. What a call is, and that its answer is the only one, is said for all functions in calls/specs/Calls.antt.
use Rattle.std.specs.Prelude.{◌≡◌, List, ℕ, get_or}
pub use Rattle.calls.specs.Calls.{Call, Always, Unique}
use Rattle.calls.specs.Lent as lent
use Rattle.serial.specs.Receiving.{Held, held, Ended, ended, begun_of, taken, finished}
use Rattle.host.specs.Receipts.{receipt_in, HasBegun, HasTaken, HasFinished}
use Rattle.serial.specs.contracts as serial
use Rattle.host.specs.contracts as host

-- ---- `begin(buffer)`

abbrev pub BeginAllows : lent.Allows serial.begin.ended
BeginAllows lifetimes a r e = r ≡ begun_of a.0.now

abbrev pub BeginCall : Type 0
BeginCall = lent.Call serial.begin.ended BeginAllows

abbrev pub BeginsAlways : Type 0
BeginsAlways = lent.Always serial.begin.ended BeginAllows

abbrev pub buffer_begun : BeginCall → List ℕ
buffer_begun c = c.passed.0.now

-- ---- `take(receipt, buffer, part)`

abbrev pub TakeAllows : lent.Allows serial.take.ended
TakeAllows lifetimes a r e = held r e.1.0.now ≡ taken (held a.0 a.1.0.now) a.1.1.0.now

abbrev pub TakeCall : Type 0
TakeCall = lent.Call serial.take.ended TakeAllows

abbrev pub TakesAlways : Type 0
TakesAlways = lent.Always serial.take.ended TakeAllows

-- the receipt and the buffer that are passed, and those that are left
abbrev pub held_before : TakeCall → Held
held_before c = held c.passed.0 c.passed.1.0.now

abbrev pub held_after : TakeCall → Held
held_after c = held c.answer c.left.1.0

abbrev pub part_of : TakeCall → List ℕ
part_of c = c.passed.1.1.0.now

-- ---- `finish(receipt, buffer)`

abbrev pub FinishAllows : lent.Allows serial.finish.ended
FinishAllows lifetimes a r e = ended r e.1.0.now ≡ finished (held a.0 a.1.0.now)

abbrev pub FinishCall : Type 0
FinishCall = lent.Call serial.finish.ended FinishAllows

abbrev pub FinishesAlways : Type 0
FinishesAlways = lent.Always serial.finish.ended FinishAllows

abbrev pub held_at_end : FinishCall → Held
held_at_end c = held c.passed.0 c.passed.1.0.now

abbrev pub end_of : FinishCall → Ended
end_of c = ended c.answer c.left.1.0

-- ---- `quernhem_begin(buffer, receipt, verdict)`

-- what a box keeps between two calls: the words of the receipt, and the buffer
pub record Kept : Type 0 where
  pub words : List ℕ
  pub buffer : List ℕ

abbrev pub kept : List ℕ → List ℕ → Kept
kept words buffer = record { words = words; buffer = buffer }

abbrev pub BeginBoxAllows : lent.Allows host.quernhem_begin.ended
BeginBoxAllows lifetimes a r e = HasBegun (begun_of a.0.now) e.1.0.now e.1.1.0.now

abbrev pub BeginBox : Type 0
BeginBox = lent.Call host.quernhem_begin.ended BeginBoxAllows

abbrev pub BoxBeginsAlways : Type 0
BoxBeginsAlways = lent.Always host.quernhem_begin.ended BeginBoxAllows

abbrev pub buffer_in : BeginBox → List ℕ
buffer_in c = c.passed.0.now

abbrev pub kept_begun : BeginBox → Kept
kept_begun c = kept c.left.1.0 (buffer_in c)

-- 0 ready or 1 refused, number, line, place
abbrev pub begun_word : BeginBox → ℕ → ℕ
begun_word c i = get_or c.left.1.1.0 i 0

-- ---- `quernhem_take(buffer, receipt, part)`

abbrev pub TakeBoxAllows : lent.Allows host.quernhem_take.ended
TakeBoxAllows lifetimes a r e = HasTaken (taken (held (receipt_in a.1.0.now) a.0.now) a.1.1.0.now) e.0.now e.1.0.now

abbrev pub TakeBox : Type 0
TakeBox = lent.Call host.quernhem_take.ended TakeBoxAllows

abbrev pub BoxTakesAlways : Type 0
BoxTakesAlways = lent.Always host.quernhem_take.ended TakeBoxAllows

abbrev pub kept_before : TakeBox → Kept
kept_before c = kept c.passed.1.0.now c.passed.0.now

abbrev pub kept_after : TakeBox → Kept
kept_after c = kept c.left.1.0 c.left.0

abbrev pub part_in : TakeBox → List ℕ
part_in c = c.passed.1.1.0.now

-- ---- `quernhem_finish(buffer, receipt, verdict)`

abbrev pub FinishBoxAllows : lent.Allows host.quernhem_finish.ended
FinishBoxAllows lifetimes a r e = HasFinished (finished (held (receipt_in a.1.0.now) a.0.now)) e.0.now e.1.1.0.now

abbrev pub FinishBox : Type 0
FinishBox = lent.Call host.quernhem_finish.ended FinishBoxAllows

abbrev pub BoxFinishesAlways : Type 0
BoxFinishesAlways = lent.Always host.quernhem_finish.ended FinishBoxAllows

abbrev pub kept_at_end : FinishBox → Kept
kept_at_end c = kept c.passed.1.0.now c.passed.0.now

abbrev pub buffer_out : FinishBox → List ℕ
buffer_out c = c.left.0

-- 0 fine or 1 refused, number, line, place
abbrev pub verdict_out : FinishBox → List ℕ
verdict_out c = c.left.1.1.0
