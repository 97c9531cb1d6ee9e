-- Bridge: the line that the code takes from a statement that was read.
-- The contracts of functions inside this crate cite it; no demand and no promise of run, check_recipe or ask rests on it.
use Rattle.std.specs.Prelude.{None, Option, Some}
use Rattle.words.specs.declared.places.LineNumber.{LineNumber}
use Rattle.statements.specs.declared.reading.StatementRead.{StatementRead}
use Rattle.statements.specs.bridge.Answers.{own_of}

abbrev pub names_of : Option StatementRead → Option LineNumber
names_of None = None
names_of (Some read) = (own_of read).names
