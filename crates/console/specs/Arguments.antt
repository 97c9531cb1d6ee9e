-- Numbers that arguments give.
use Rattle.std.specs.Prelude.{cond, List, ℕ, ◌≤◌, ltb, eqb, length, Option, Result, Ok, Err, IfSome, IfOk}
use Rattle.whole.specs.Digits.{leading_digits, value_from}
use Rattle.console.specs.declared.arguments.BadNumber.{BadNumber}
use Rattle.console.specs.declared.arguments.BadNumber.TheVariants.{TooLarge, NoNumber}

-- a number is one or more digits and nothing else; it may be at most so large
unfoldable pub number_given : List ℕ → ℕ → Result ℕ BadNumber
number_given s most =
    cond (eqb (length (leading_digits s)) 0) (Err NoNumber)
    (cond (ltb (length (leading_digits s)) (length s)) (Err NoNumber)
    (cond (ltb most (value_from 0 s)) (Err TooLarge) (Ok (value_from 0 s))))

-- a number that was given, or is to go by, is within its limit
abbrev pub Limited : Result ℕ BadNumber → ℕ → Type 0
Limited given most = IfOk given (λ n. n ≤ most)

abbrev pub AtMost : Option ℕ → ℕ → Type 0
AtMost setting most = IfSome setting (λ n. n ≤ most)
