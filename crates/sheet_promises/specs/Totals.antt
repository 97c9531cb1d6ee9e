-- The month's sheet as statements about every call of the code.
use Rattle.std.specs.Prelude.{◌≡◌, List, [], ◌∷◌, map}
use Rattle.sheet.specs.Sheet.{sheet_of, joined}
use Rattle.sheet.specs.Reports.{report}
use Rattle.sheet.specs.declared.taking.Sheet.{Sheet}
use Rattle.sheet_promises.specs.Calls.{BeginCall, TakeCall, FinishCall, sheet_passed, part_of, sheet_at_end, BeginsAlways, TakesAlways, FinishesAlways}

-- each call is passed the sheet that the one before it answered, the first s, and the last answers e
unfoldable pub Follow : Sheet → List TakeCall → Sheet → Type 0
Follow s [] e = s ≡ e
Follow s (c ∷ cs) e = (sheet_passed c ≡ s) × Follow c.answer cs e

-- Whatever parts a sheet is cut into: begun, taken and finished, the report is the sheet of all its bytes.
abbrev pub CallsTotal : Type 0
CallsTotal =
    (b : BeginCall) (cs : List TakeCall) (f : FinishCall) → Follow b.answer cs (sheet_at_end f)
    → f.answer ≡ report (sheet_of (joined (map part_of cs)))

-- Every call has an answer that its contract allows, whatever is passed: any sheet, also one that no call gave.
pub record TotalsAlways : Type 0 where
  pub begin : BeginsAlways
  pub take : TakesAlways
  pub finish : FinishesAlways
