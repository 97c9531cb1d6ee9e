-- The numbers of the errors: GW-BASIC's, and 110 of the house.
use Rattle.std.specs.Prelude.{ℕ}
use Rattle.whole.specs.declared.errors.Error.{Error}
use Rattle.whole.specs.declared.errors.Error.TheVariants.{
  NextWithoutFor,
  Syntax,
  ReturnWithoutGosub,
  OutOfData,
  IllegalFunctionCall,
  Overflow,
  OutOfMemory,
  UndefinedLine,
  DivisionByZero,
  TypeMismatch,
  OutOfStringSpace,
  StringTooLong,
  FormulaTooComplex,
  LineBufferOverflow,
  ForWithoutNext,
  WhileWithoutWend,
  WendWithoutWhile,
  InputPastEnd,
  OutputFull,
}

abbrev pub error_number : Error → ℕ
error_number NextWithoutFor = 1
error_number Syntax = 2
error_number ReturnWithoutGosub = 3
error_number OutOfData = 4
error_number IllegalFunctionCall = 5
error_number Overflow = 6
error_number OutOfMemory = 7
error_number UndefinedLine = 8
error_number DivisionByZero = 11
error_number TypeMismatch = 13
error_number OutOfStringSpace = 14
error_number StringTooLong = 15
error_number FormulaTooComplex = 16
error_number LineBufferOverflow = 23
error_number ForWithoutNext = 26
error_number WhileWithoutWend = 29
error_number WendWithoutWhile = 30
error_number InputPastEnd = 62
error_number OutputFull = 110
