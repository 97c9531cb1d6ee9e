use mathlib.Core.Path.{◌≡◌}
use mathlib.Core.List.{List}
use Prim.Native.Nat.{ℕ, ◌+◌, ◌*◌, ◌≤◌}
use lib.ListN.{length}
use Rattle.sheet.specs.Reports.{room, report}
use Rattle.sheet.proofs.Reported.{Lined}
use Rattle.sheet.proofs.reports.Report.put_codes.Given as goal

abbrev pub invariant-loop-code : goal.invariant-loop-code
invariant-loop-code l = (lines : List ℕ) → l.fn.self ≡ report lines → length lines + 47 * 256 ≤ room → Lined lines l.codes l.self l.code
