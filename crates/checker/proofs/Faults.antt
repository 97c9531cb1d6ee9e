-- The fault of a line, by how it is judged, and the first faulty line of a recipe.
use Rattle.std.specs.Prelude.{Err, Ok, Result}
use mathlib.Core.Path.{◌≡◌, refl}
use mathlib.Core.Bool.{Bool, false, cond}
use mathlib.Core.List.{List}
use Prim.Native.Nat.{ℕ}
use Rattle.whole.proofs.Never.{never}
use Rattle.whole.specs.declared.errors.Error.{Error}
use Rattle.whole.specs.declared.errors.Error.TheVariants.{TypeMismatch, UndefinedLine}
use Rattle.loader.specs.Lines.{Line}
use Rattle.loader.specs.declared.lines.LineSpan.{LineSpan}
use Rattle.loader.proofs.Extents.{lines_at}
use Rattle.loader.proofs.Spans.{body_at, Spanned}
use Rattle.grammar.specs.Trees.{Part}
use Rattle.statements.specs.Parts.{statements_of}
use Rattle.reader.specs.Lines.{Judgement, unreadable, too_deep, holds, judgement, judged_as}
use Rattle.reader.specs.bridge.Walking.{error_of}
use Rattle.reader.specs.declared.lines.LineFault.{LineFault}
use Rattle.checker.specs.Check.{any_missing, fault_in, first_fault}
use Rattle.checker.specs.declared.checking.Fault.TheVariants.{Faulty}

-- ---- the fault of a line

-- by how the line is judged and whether a line that it names is missing
abbrev pub fault_by : Result Bool LineFault → Bool → Result (Unit {0}) Error
fault_by (Err fault) lacks = Err (error_of fault)
fault_by (Ok typed) lacks = cond typed (cond lacks (Err UndefinedLine) (Ok tt)) (Err TypeMismatch)

module _ (all : List Line) where
  abbrev pub lacking : Judgement → Bool
  lacking unreadable = false
  lacking too_deep = false
  lacking (holds part) = any_missing all (statements_of part)

  pub fault_by_lem : (g : Judgement) {j : Result Bool LineFault} → j ≡ judged_as g → fault_by j (lacking g) ≡ fault_in all g
  fault_by_lem unreadable e = rw e
  fault_by_lem too_deep e = rw e
  fault_by_lem (holds part) e = rw e

  -- whether one is missing counts where the line reads
  pub fault_read : (g : Judgement) {typed lacks : Bool} → Ok typed ≡ judged_as g
      → ((part : Part) → g ≡ holds part → lacks ≡ any_missing all (statements_of part)) → fault_by (Ok typed) lacks ≡ fault_in all g
  fault_read unreadable e h = never (cc)
  fault_read too_deep e h = never (cc)
  fault_read (holds part) e h = rw (h part refl) (fault_by_lem (holds part) e)

-- ---- the first faulty line

module _ (all : List Line) (text : List ℕ) {p : ℕ} {span : LineSpan} (here : Spanned text p span) where
  -- the line reached decides where it is faulty,
  pub fault_here : {error : Error} → Err error ≡ fault_in all (judgement (body_at text span)) → Err (Faulty error span.number) ≡ first_fault all (lines_at text p)
  unfolding first_fault
  fault_here e = rw (here.lines, ← here.bytes, ← e, here.number)

  -- and otherwise the lines after it
  pub fault_later : (Ok tt) ≡ fault_in all (judgement (body_at text span)) → first_fault all (lines_at text span.next.0) ≡ first_fault all (lines_at text p)
  unfolding first_fault
  fault_later e = rw (here.lines, ← here.bytes, ← e)
