-- What a line of a recipe is refused for, in the order of the paper's tests: 2, then 16, then 13, then 8.
use Rattle.std.specs.Prelude.{◌≡◌, true, false, List, [], ◌∷◌, ◌++◌, ℕ}
use Rattle.whole.specs.Digits.{leading_value}
use Rattle.whole.specs.Errors.{error_number}
use Rattle.whole.specs.declared.errors.Error.{Error}
use Rattle.whole.specs.declared.errors.Error.TheVariants.{Syntax, FormulaTooComplex, TypeMismatch, UndefinedLine}
use Rattle.words.specs.Places.{line_number}
use Rattle.words.specs.declared.places.LineNumber.{LineNumber}
use Rattle.loader.specs.Lines.{Line, lines_of, after_number}
use Rattle.grammar.specs.Trees.{Part}
use Rattle.statements.specs.Parts.{statements_of, all_typed}
use Rattle.reader.specs.Lines as lines
use Rattle.reader.specs.Lines.{holds, judgement}
use Rattle.checker.specs.Check.{any_missing}

-- the fault of a line of a recipe, all of whose lines are `all`; every branch of an IF counts
pub data HasFault (all : List Line) (l : Line) : Error → Type 0 where
  -- 2: what stands after its number does not read
  unreadable : judgement (after_number l) ≡ lines.unreadable → HasFault all l Syntax
  -- 16: it reads, and parentheses nest too deep
  too_deep : judgement (after_number l) ≡ lines.too_deep → HasFault all l FormulaTooComplex
  -- 13: it reads and does not nest too deep, and not every statement is rightly typed
  wrongly_typed : {p : Part} → judgement (after_number l) ≡ holds p → all_typed (statements_of p) ≡ false → HasFault all l TypeMismatch
  -- 8: it reads, does not nest too deep and is rightly typed, and a statement names a line that the recipe has not
  names_missing : {p : Part} → judgement (after_number l) ≡ holds p → all_typed (statements_of p) ≡ true
      → any_missing all (statements_of p) ≡ true → HasFault all l UndefinedLine

abbrev pub Faultless : List Line → Line → Type 0
Faultless all l = (e : Error) → HasFault all l e → ⊥

unfoldable pub AllFaultless : List Line → List Line → Type 0
AllFaultless all [] = Unit {0}
AllFaultless all (l ∷ ls) = Faultless all l × AllFaultless all ls

-- the first faulty line of a recipe has this fault and this number
pub record FirstFault (recipe : List ℕ) (e : Error) (n : LineNumber) : Type 0 where
  pub before : List Line
  pub line : Line
  pub after : List Line
  pub lines : lines_of recipe ≡ before ++ (line ∷ after)
  pub earlier : AllFaultless (lines_of recipe) before
  pub fault : HasFault (lines_of recipe) line e
  pub number : line_number (leading_value line.bytes) ≡ n

-- the same by the paper's numbers, of the error and of the line
pub record NumberedFault (recipe : List ℕ) (number line : ℕ) : Type 0 where
  pub error : Error
  pub numbered : error_number error ≡ number
  pub first : FirstFault recipe error (line_number line)
