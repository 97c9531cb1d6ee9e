-- The check. It loads (100 to 105), then refuses with an error number and the first faulty line's number; in a line 2, then 16,
-- then 13 (a formula, condition, argument, target or NEXT's name of the wrong type, in any branch), then 8 (a line named in a
-- statement but missing, in any branch). It refuses in no other case.
use Rattle.checker.specs.declared.checking.Fault.{Fault}
use Rattle.loader.specs.declared.refusals.RefusedAt.{RefusedAt}
use Rattle.whole.specs.declared.errors.Error.{Error}
use Rattle.std.specs.Prelude.{Bool, false, cond, not, ◌||◌, List, [], ◌∷◌, ℕ, Err, None, Ok, Option, Result, Some}
use Rattle.whole.specs.Digits.{leading_value}
use Rattle.whole.specs.Errors.{error_number}
use Rattle.whole.specs.declared.errors.Error.TheVariants.{Syntax, FormulaTooComplex, TypeMismatch, UndefinedLine}
use Rattle.words.specs.Places.{line_number}
use Rattle.words.specs.declared.places.LineNumber.{LineNumber}
use Rattle.loader.specs.Lines.{Line, lines_of, number_of, has, after_number}
use Rattle.loader.specs.Loading.{load_of}
use Rattle.loader.specs.Refusals.{refusal_number}
use Rattle.grammar.specs.Trees.{Statement}
use Rattle.statements.specs.Parts.{named_line, statements_of, all_typed}
use Rattle.reader.specs.Lines.{Judgement, unreadable, too_deep, holds, judgement}
use Rattle.checker.specs.declared.checking.Fault.TheVariants.{Refused, Faulty}

-- ---- lines that are named but missing

-- whether one of some lines has the number n
unfoldable pub present : ℕ → List Line → Bool
present n [] = false
present n (l ∷ ls) = has n (number_of l.bytes) || present n ls

abbrev pub missing : List Line → Option LineNumber → Bool
missing all (Some n) = not (present n.0 all)
missing all None = false

unfoldable pub any_missing : List Line → List Statement → Bool
any_missing all [] = false
any_missing all (x ∷ xs) = missing all (named_line x) || any_missing all xs

-- ---- the fault of a line, in the order of the tests

abbrev pub fault_of : List Line → List Statement → Result (Unit {0}) Error
fault_of all xs = cond (all_typed xs) (cond (any_missing all xs) (Err UndefinedLine) (Ok tt)) (Err TypeMismatch)

abbrev pub fault_in : List Line → Judgement → Result (Unit {0}) Error
fault_in all unreadable = Err Syntax
fault_in all too_deep = Err FormulaTooComplex
fault_in all (holds p) = fault_of all (statements_of p)

-- ---- the first faulty line decides

abbrev pub or_else : Result (Unit {0}) Error → LineNumber → (Unit {0} → Result (Unit {0}) Fault) → Result (Unit {0}) Fault
or_else (Ok _) n later = later tt
or_else (Err e) n later = Err (Faulty e n)

unfoldable pub first_fault : List Line → List Line → Result (Unit {0}) Fault
first_fault all [] = Ok tt
first_fault all (l ∷ ls) =
    or_else (fault_in all (judgement (after_number l))) (line_number (leading_value l.bytes)) (λ _. first_fault all ls)

abbrev pub if_loaded : Result (Unit {0}) RefusedAt → (Unit {0} → Result (Unit {0}) Fault) → Result (Unit {0}) Fault
if_loaded (Ok _) check = check tt
if_loaded (Err e) check = Err (Refused e.refusal e.place)

unfoldable pub check_of : List ℕ → Result (Unit {0}) Fault
check_of text = if_loaded (load_of text) (λ _. first_fault (lines_of text) (lines_of text))

-- ---- what is answered: number, line and place; what does not apply is 0

abbrev pub verdict_number : Result (Unit {0}) Fault → ℕ
verdict_number (Ok _) = 0
verdict_number (Err (Refused r p)) = refusal_number r
verdict_number (Err (Faulty e l)) = error_number e

abbrev pub verdict_line : Result (Unit {0}) Fault → ℕ
verdict_line (Ok _) = 0
verdict_line (Err (Refused r p)) = 0
verdict_line (Err (Faulty e l)) = l.0

abbrev pub verdict_place : Result (Unit {0}) Fault → ℕ
verdict_place (Ok _) = 0
verdict_place (Err (Refused r p)) = p.0
verdict_place (Err (Faulty e l)) = 0
