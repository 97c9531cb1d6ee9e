-- What the program writes: `passed`; or `refused`, the number and the line (the place for 100 to 105), parted by tabs; ended by byte 10.
use Rattle.checker.specs.declared.checking.Fault.{Fault}
use Rattle.std.specs.Prelude.{List, [], ℕ, Err, Ok, Result}
use Rattle.whole.specs.Bytes.{bytes}
use Rattle.console.specs.Lines.{line, refused_line}
use Rattle.checker.specs.Check.{verdict_number, verdict_line, verdict_place}
use Rattle.checker.specs.declared.checking.Fault.TheVariants.{Refused, Faulty}

abbrev pub line_of : Result (Unit {0}) Fault → List ℕ
line_of (Ok _) = line (bytes "passed") []
line_of (Err (Refused r p)) = refused_line (verdict_number (Err (Refused r p))) (verdict_place (Err (Refused r p)))
line_of (Err (Faulty e l)) = refused_line (verdict_number (Err (Faulty e l))) (verdict_line (Err (Faulty e l)))
