-- How a formula reads. Operators, tightest first: `*`, `\`, MOD, `+` and `-`, comparisons, NOT, AND, OR, XOR, EQV, IMP.
-- A formula of a level is an operand, and as long as a two-sided operator of that level or a tighter one follows, that operator
-- with a formula of the next tighter level on its right.
use Rattle.std.specs.Prelude.{Bool, cond, List, ℕ, zero, suc, ◌+◌, ◌*◌, leb, length, take, drop, None, Option, Some}
use Rattle.whole.specs.declared.arithmetic.Operator.{Operator}
use Rattle.whole.specs.declared.arithmetic.Operator.TheVariants as operator
use Rattle.words.specs.Names.{name_bytes, telling_of}
use Rattle.words.specs.declared.places.Place.{Place}
use Rattle.words.specs.declared.symbols.Function.{Function}
use Rattle.words.specs.declared.symbols.Quotation.{Quotation}
use Rattle.words.specs.declared.symbols.Scanned.{Scanned}
use Rattle.words.specs.declared.symbols.Token.{Token}
use Rattle.words.specs.declared.symbols.Token.TheVariants.{
  EndOfLine,
  Keyword,
  Not,
  Infix,
  Call,
  Named,
  Number,
  Hexadecimal,
  LineOnly,
  Quoted,
  Symbol,
  Unreadable,
}
use Rattle.words.specs.declared.symbols.Sign.{Sign}
use Rattle.words.specs.declared.symbols.Sign.TheVariants.{
  Open,
  Close,
  Comma,
  Semicolon,
  Colon,
  Question,
  Equal,
  Minus,
}
use Rattle.scanner.specs.Tokens.{token_at}
use Rattle.grammar.specs.Tests.{choose, is_symbol}
use Rattle.grammar.specs.Trees.{Formula, number, variable, text, inside, minus, complement, two_sided, call, Arguments, none, also}
use Rattle.grammar.specs.Functions.{takes}

-- ---- operators and their levels, loosest first; NOT's is 5, the minus sign's 11, and 12 is that of what has no operator outside

abbrev pub level_of : Operator → ℕ
level_of operator.Imp = 0
level_of operator.Eqv = 1
level_of operator.Xor = 2
level_of operator.Or = 3
level_of operator.And = 4
level_of operator.Equal = 6
level_of operator.Unequal = 6
level_of operator.Less = 6
level_of operator.Greater = 6
level_of operator.AtMost = 6
level_of operator.AtLeast = 6
level_of operator.Add = 7
level_of operator.Subtract = 7
level_of operator.Modulo = 8
level_of operator.Divide = 9
level_of operator.Multiply = 10

abbrev pub not_level : ℕ
not_level = 5

abbrev pub minus_level : ℕ
minus_level = 11

abbrev pub tightest : ℕ
tightest = 12

-- two-sided operators group to the left: what stands on the right of one is of the next tighter level
abbrev pub right_level : Operator → ℕ
right_level op = level_of op + 1

-- whether a minus sign, or NOT, may begin a formula of a level
abbrev pub minus_stands : ℕ → Bool
minus_stands level = leb level minus_level

abbrev pub not_stands : ℕ → Bool
not_stands level = leb level not_level

-- the signs `=` and `-` are operators where one may stand
abbrev pub sign_operator : Sign → Option Operator
sign_operator Open = None
sign_operator Close = None
sign_operator Comma = None
sign_operator Semicolon = None
sign_operator Colon = None
sign_operator Question = None
sign_operator Equal = Some operator.Equal
sign_operator Minus = Some operator.Subtract

abbrev pub operator_of : Token → Option Operator
operator_of EndOfLine = None
operator_of (Keyword w) = None
operator_of Not = None
operator_of (Infix op) = Some op
operator_of (Call f) = None
operator_of (Named v) = None
operator_of (Number n) = None
operator_of (Hexadecimal n) = None
operator_of (LineOnly l) = None
operator_of (Quoted q) = None
operator_of (Symbol s) = sign_operator s
operator_of Unreadable = None

-- an operator of a level or a tighter one
abbrev pub tight_enough : ℕ → Option Operator → Option Operator
tight_enough level (Some op) = cond (leb level (level_of op)) (Some op) None
tight_enough level None = None

abbrev pub tight_operator : ℕ → Token → Option Operator
tight_operator level t = tight_enough level (operator_of t)

-- ---- what reading finds

-- nothing that reads, or a formula and the token that follows it
pub data Reading : Type 0 where
  bad : Reading
  good : Formula → Scanned → Reading

abbrev pub mapped : (Formula → Formula) → Reading → Reading
mapped make bad = bad
mapped make (good f t) = good (make f) t

-- the token after a token
abbrev pub after : List ℕ → Scanned → Scanned
after s t = token_at s t.next

-- the parenthesis that closes
abbrev pub closed : List ℕ → Reading → Reading
closed s bad = bad
closed s (good f t) = choose (is_symbol Close t.token) (λ _. good (inside f) (after s t)) (λ _. bad)

unfoldable pub count_of : Arguments → ℕ
count_of none = 0
count_of (also a f) = suc (count_of a)

-- a function with all its arguments, if it takes as many
abbrev pub called : Function → Arguments → Scanned → Reading
called f a t = choose (takes f (count_of a)) (λ _. good (call f a) t) (λ _. bad)

-- the bytes of a quoted text
abbrev pub quoted_bytes : List ℕ → Quotation → List ℕ
quoted_bytes s q = take q.len (drop q.at s)

abbrev pub by_sign : Sign → (Unit {0} → Reading) → (Unit {0} → Reading) → Reading
by_sign Open opening negative = opening tt
by_sign Close opening negative = bad
by_sign Comma opening negative = bad
by_sign Semicolon opening negative = bad
by_sign Colon opening negative = bad
by_sign Question opening negative = bad
by_sign Equal opening negative = bad
by_sign Minus opening negative = negative tt

abbrev pub by_operator : Option Operator → (Operator → Reading) → Reading → Reading
by_operator (Some op) go stop = go op
by_operator None go stop = stop

-- ---- the grammar; the first argument bounds how deep the definitions go, and no line goes as deep as `enough` lets it

-- four steps for each byte, and some
abbrev pub enough : List ℕ → ℕ
enough s = 4 * length s + 12

unfoldable mutual
  -- the formula of a level that begins with the token t of the line s
  pub formula_at : ℕ → List ℕ → ℕ → Scanned → Reading
  formula_at zero s level t = bad
  formula_at (suc n) s level t = climb_at n s level (operand_at n s level t.token t.next)

  -- as long as an operator of the level or a tighter one follows
  pub climb_at : ℕ → List ℕ → ℕ → Reading → Reading
  climb_at zero s level x = bad
  climb_at (suc n) s level bad = bad
  climb_at (suc n) s level (good f t) =
      by_operator (tight_operator level t.token)
      (λ op. climb_at n s level (mapped (two_sided op f) (formula_at n s (right_level op) (after s t))))
      (good f t)

  -- an operand: parentheses, names, numbers, texts and functions, one minus sign before such, or NOT where the level lets it stand
  pub operand_at : ℕ → List ℕ → ℕ → Token → Place → Reading
  operand_at zero s level t next = bad
  operand_at (suc n) s level (Number w) next = good (number w) (token_at s next)
  operand_at (suc n) s level (Hexadecimal w) next = good (number w) (token_at s next)
  operand_at (suc n) s level (Named v) next = good (variable v.kind (telling_of (name_bytes s v))) (token_at s next)
  operand_at (suc n) s level (Quoted q) next = good (text (quoted_bytes s q)) (token_at s next)
  operand_at (suc n) s level (Symbol sign) next =
      by_sign sign
      (λ _. closed s (formula_at n s 0 (token_at s next)))
      (λ _. choose (minus_stands level)
      (λ _. mapped minus (operand_at n s tightest (token_at s next).token (token_at s next).next))
      (λ _. bad))
  operand_at (suc n) s level Not next =
      choose (not_stands level) (λ _. mapped complement (formula_at n s not_level (token_at s next))) (λ _. bad)
  operand_at (suc n) s level (Call f) next =
      choose (is_symbol Open (token_at s next).token)
      (λ _. arguments_at n s f none (formula_at n s 0 (after s (token_at s next))))
      (λ _. bad)
  operand_at (suc n) s level EndOfLine next = bad
  operand_at (suc n) s level (Keyword w) next = bad
  operand_at (suc n) s level (Infix op) next = bad
  operand_at (suc n) s level (LineOnly l) next = bad
  operand_at (suc n) s level Unreadable next = bad

  -- arguments parted by commas, after those that were read; the next of them was read
  pub arguments_at : ℕ → List ℕ → Function → Arguments → Reading → Reading
  arguments_at zero s f a x = bad
  arguments_at (suc n) s f a bad = bad
  arguments_at (suc n) s f a (good x t) =
      choose (is_symbol Comma t.token) (λ _. arguments_at n s f (also a x) (formula_at n s 0 (after s t))) λ _.
      choose (is_symbol Close t.token) (λ _. called f (also a x) (after s t)) λ _.
      bad

-- the formula that begins with the token t
unfoldable pub formula_of : List ℕ → Scanned → Reading
formula_of s t = formula_at (enough s) s 0 t
