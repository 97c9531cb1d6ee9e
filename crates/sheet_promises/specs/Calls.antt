-- Calls of `begin`, `take` and `finish`: what was passed. What a call is, and that its answer is the only one, is said for all functions in
-- calls/specs/Calls.antt.
use Rattle.std.specs.Prelude.{◌≡◌, List, ℕ}
pub use Rattle.calls.specs.Calls.{Call, Always, Unique}
use Rattle.calls.specs.Lent as lent
use Rattle.sheet.specs.Reports.{report}
use Rattle.sheet.specs.bridge.Taking.{begun, taken, finished}
use Rattle.sheet.specs.declared.taking.Sheet.{Sheet}
use Rattle.sheet.specs.contracts as sheet

-- ---- `begin()`, `take(sheet, part)`, `finish(sheet)`

-- what their contracts allow (proofs/TheSame)
abbrev pub BeginAllows : lent.Allows sheet.begin.ended
BeginAllows lifetimes a r e = r ≡ begun

abbrev pub BeginCall : Type 0
BeginCall = lent.Call sheet.begin.ended BeginAllows

abbrev pub TakeAllows : lent.Allows sheet.take.ended
TakeAllows lifetimes a r e = r ≡ taken a.0 a.1.0.now

abbrev pub TakeCall : Type 0
TakeCall = lent.Call sheet.take.ended TakeAllows

abbrev pub FinishAllows : lent.Allows sheet.finish.ended
FinishAllows lifetimes a r e = r ≡ report (finished a.0)

abbrev pub FinishCall : Type 0
FinishCall = lent.Call sheet.finish.ended FinishAllows

abbrev pub sheet_passed : TakeCall → Sheet
sheet_passed c = c.passed.0

abbrev pub part_of : TakeCall → List ℕ
part_of c = c.passed.1.0.now

abbrev pub sheet_at_end : FinishCall → Sheet
sheet_at_end c = c.passed.0

abbrev pub BeginsAlways : Type 0
BeginsAlways = lent.Always sheet.begin.ended BeginAllows

abbrev pub TakesAlways : Type 0
TakesAlways = lent.Always sheet.take.ended TakeAllows

abbrev pub FinishesAlways : Type 0
FinishesAlways = lent.Always sheet.finish.ended FinishAllows
