-- Errors, refusals and verdicts are told apart by the paper's numbers.
use Rattle.std.specs.Prelude.{Err, Ok, Result}
use Rattle.checker.specs.declared.checking.Fault.{Fault}
use mathlib.Core.Path.{◌≡◌, refl, sym, ap, ap₂, ◌∙◌}
use mathlib.Core.Bool.{false, false≢true, cond}
use mathlib.Core.List.{List}
use Prim.Native.Nat.{ℕ, ◌≤◌, ◌<◌}
use native.Mathlib.Omega.{arith}
use lib.Dec.{eqb}
use Rattle.whole.specs.Errors.{error_number}
use Rattle.whole.specs.declared.errors.Error.{Error}
use Rattle.whole.specs.declared.errors.Error.TheVariants.{
  NextWithoutFor,
  Syntax,
  ReturnWithoutGosub,
  OutOfData,
  IllegalFunctionCall,
  Overflow,
  OutOfMemory,
  UndefinedLine,
  DivisionByZero,
  TypeMismatch,
  OutOfStringSpace,
  StringTooLong,
  FormulaTooComplex,
  LineBufferOverflow,
  ForWithoutNext,
  WhileWithoutWend,
  WendWithoutWhile,
  InputPastEnd,
  OutputFull,
}
use Rattle.words.specs.Places.{place, line_number}
use Rattle.loader.specs.Lines.{Line}
use Rattle.loader.specs.Refusals.{refusal_number}
use Rattle.loader.specs.declared.refusals.Refusal.{Refusal}
use Rattle.loader.specs.declared.refusals.Refusal.TheVariants.{
  NoVariable,
  SpaceTooLong,
  StackTooLong,
  TextTooLong,
  LineTooLong,
  ForeignByte,
  BadNumber,
  NotRising,
  TooManyLines,
  ShortGroup,
  TooManyPairs,
  NoRoom,
}
use Rattle.checker.specs.Check.{verdict_number}
use Rattle.checker.specs.declared.checking.Fault.TheVariants as verdict
use Rattle.runner.specs.Run.{number_in, line_in}
use Rattle.runner.specs.declared.running.Outcome.{Outcome}
use Rattle.runner.specs.declared.running.Outcome.TheVariants.{Ended, Stopped, Out, Failed, Refused}
use Rattle.promises.specs.Demands.{WasRefused, Tells, first_refusal}
use Rattle.promises.specs.Faults.{HasFault, unreadable, too_deep, wrongly_typed, names_missing}
use Rattle.promises.specs.Passing.{spared_numbers, one_of}

-- ---- errors

error_of : ℕ → Error
error_of n =
    cond (eqb n 1) NextWithoutFor
    (cond (eqb n 2) Syntax
    (cond (eqb n 3) ReturnWithoutGosub
    (cond (eqb n 4) OutOfData
    (cond (eqb n 5) IllegalFunctionCall
    (cond (eqb n 6) Overflow
    (cond (eqb n 7) OutOfMemory
    (cond (eqb n 8) UndefinedLine
    (cond (eqb n 11) DivisionByZero
    (cond (eqb n 13) TypeMismatch
    (cond (eqb n 14) OutOfStringSpace
    (cond (eqb n 15) StringTooLong
    (cond (eqb n 16) FormulaTooComplex
    (cond (eqb n 23) LineBufferOverflow
    (cond (eqb n 26) ForWithoutNext
    (cond (eqb n 29) WhileWithoutWend
    (cond (eqb n 30) WendWithoutWhile
    (cond (eqb n 62) InputPastEnd OutputFull)))))))))))))))))

error_back : (e : Error) → error_of (error_number e) ≡ e
unfolding error_of
error_back NextWithoutFor = refl
error_back Syntax = refl
error_back ReturnWithoutGosub = refl
error_back OutOfData = refl
error_back IllegalFunctionCall = refl
error_back Overflow = refl
error_back OutOfMemory = refl
error_back UndefinedLine = refl
error_back DivisionByZero = refl
error_back TypeMismatch = refl
error_back OutOfStringSpace = refl
error_back StringTooLong = refl
error_back FormulaTooComplex = refl
error_back LineBufferOverflow = refl
error_back ForWithoutNext = refl
error_back WhileWithoutWend = refl
error_back WendWithoutWhile = refl
error_back InputPastEnd = refl
error_back OutputFull = refl

pub same_error : (d e : Error) → error_number d ≡ error_number e → d ≡ e
same_error d e h = sym (error_back d) ∙ ap error_of h ∙ error_back e

pub error_some : (e : Error) → 0 < error_number e
error_some NextWithoutFor = omega arith
error_some Syntax = omega arith
error_some ReturnWithoutGosub = omega arith
error_some OutOfData = omega arith
error_some IllegalFunctionCall = omega arith
error_some Overflow = omega arith
error_some OutOfMemory = omega arith
error_some UndefinedLine = omega arith
error_some DivisionByZero = omega arith
error_some TypeMismatch = omega arith
error_some OutOfStringSpace = omega arith
error_some StringTooLong = omega arith
error_some FormulaTooComplex = omega arith
error_some LineBufferOverflow = omega arith
error_some ForWithoutNext = omega arith
error_some WhileWithoutWend = omega arith
error_some WendWithoutWhile = omega arith
error_some InputPastEnd = omega arith
error_some OutputFull = omega arith

-- ---- refusals

refusal_of : ℕ → Refusal
refusal_of n =
    cond (eqb n 111) NoVariable
    (cond (eqb n 106) SpaceTooLong
    (cond (eqb n 107) StackTooLong
    (cond (eqb n 100) TextTooLong
    (cond (eqb n 103) LineTooLong
    (cond (eqb n 104) ForeignByte
    (cond (eqb n 101) BadNumber
    (cond (eqb n 102) NotRising
    (cond (eqb n 105) TooManyLines
    (cond (eqb n 108) ShortGroup
    (cond (eqb n 109) TooManyPairs NoRoom))))))))))

refusal_back : (r : Refusal) → refusal_of (refusal_number r) ≡ r
unfolding refusal_of
refusal_back NoVariable = refl
refusal_back SpaceTooLong = refl
refusal_back StackTooLong = refl
refusal_back TextTooLong = refl
refusal_back LineTooLong = refl
refusal_back ForeignByte = refl
refusal_back BadNumber = refl
refusal_back NotRising = refl
refusal_back TooManyLines = refl
refusal_back ShortGroup = refl
refusal_back TooManyPairs = refl
refusal_back NoRoom = refl

pub same_refusal : (q r : Refusal) → refusal_number q ≡ refusal_number r → q ≡ r
same_refusal q r h = sym (refusal_back q) ∙ ap refusal_of h ∙ refusal_back r

pub refusal_high : (r : Refusal) → first_refusal ≤ refusal_number r
refusal_high NoVariable = omega arith
refusal_high SpaceTooLong = omega arith
refusal_high StackTooLong = omega arith
refusal_high TextTooLong = omega arith
refusal_high LineTooLong = omega arith
refusal_high ForeignByte = omega arith
refusal_high BadNumber = omega arith
refusal_high NotRising = omega arith
refusal_high TooManyLines = omega arith
refusal_high ShortGroup = omega arith
refusal_high TooManyPairs = omega arith
refusal_high NoRoom = omega arith

-- none of them is what the check spares a run
pub refusal_spared : (r : Refusal) → one_of spared_numbers (refusal_number r) ≡ false
refusal_spared NoVariable = refl
refusal_spared SpaceTooLong = refl
refusal_spared StackTooLong = refl
refusal_spared TextTooLong = refl
refusal_spared LineTooLong = refl
refusal_spared ForeignByte = refl
refusal_spared BadNumber = refl
refusal_spared NotRising = refl
refusal_spared TooManyLines = refl
refusal_spared ShortGroup = refl
refusal_spared TooManyPairs = refl
refusal_spared NoRoom = refl

-- ---- how a run ended

-- an error below 100, by its number and line
pub failed_told : (e : Error) → error_number e < first_refusal → (o : Outcome) (line : ℕ) → number_in o ≡ error_number e → line_in o ≡ line → o ≡ Failed e (line_number line)
failed_told e low Ended line n l = absurd (omega (arith, error_some e))
failed_told e low (Stopped k) line n l = absurd (omega (arith, error_some e))
failed_told e low (Out k) line n l = absurd (omega (arith, error_some e))
failed_told e low (Failed d k) line n l = ap₂ Failed (same_error d e n) (ap line_number l)
failed_told e low (Refused r p) line n l = absurd (omega (arith, refusal_high r))

-- a refusal, by its number and place
pub record Refuses (o : Outcome) (number at : ℕ) : Type 0 where
  pub refusal : Refusal
  pub numbered : refusal_number refusal ≡ number
  pub is : o ≡ Refused refusal (place at)

pub refused_told : (o : Outcome) (number at : ℕ) → WasRefused o number at → Refuses o number at
refused_told Ended n p w = absurd (false≢true w.refused)
refused_told (Stopped l) n p w = absurd (false≢true w.refused)
refused_told (Out l) n p w = absurd (false≢true w.refused)
refused_told (Failed e l) n p w = absurd (false≢true w.refused)
refused_told (Refused r q) n p w = record { refusal = r; numbered = w.numbered; is = ap (Refused r) (ap place w.placed) }

-- ---- a verdict

-- what the check finds in a line has a number below 100
pub fault_low : {all : List Line} {l : Line} {e : Error} → HasFault all l e → error_number e < first_refusal
fault_low (unreadable r) = omega arith
fault_low (too_deep r) = omega arith
fault_low (wrongly_typed r t) = omega arith
fault_low (names_missing r t m) = omega arith

pub record Faults (v : Result (Unit {0}) Fault) (number line : ℕ) : Type 0 where
  pub error : Error
  pub numbered : error_number error ≡ number
  pub is : v ≡ Err (verdict.Faulty error (line_number line))

pub faulty_told : (v : Result (Unit {0}) Fault) (number line at : ℕ) → 0 < number → number < first_refusal → Tells v number line at → Faults v number line
faulty_told (Ok _) n l p a b t = absurd (omega (arith, t.numbered))
faulty_told (Err (verdict.Refused r q)) n l p a b t = absurd (omega (arith, t.numbered, refusal_high r))
faulty_told (Err (verdict.Faulty e k)) n l p a b t =
    record { error = e; numbered = t.numbered; is = ap (λ l. Err (verdict.Faulty e l)) (ap line_number t.lined) }

-- a refusal, by its number and place
pub record Unloads (v : Result (Unit {0}) Fault) (number at : ℕ) : Type 0 where
  pub refusal : Refusal
  pub numbered : refusal_number refusal ≡ number
  pub is : v ≡ Err (verdict.Refused refusal (place at))

pub passed_told : (v : Result (Unit {0}) Fault) → verdict_number v ≡ 0 → v ≡ Ok tt
passed_told (Ok _) t = refl
passed_told (Err (verdict.Refused r q)) t = absurd (omega (arith, refusal_high r))
passed_told (Err (verdict.Faulty e k)) t = absurd (omega (arith, error_some e))
