-- Laws that recipe writers lean on, of what formulas come to. X$, N, A, B and C$ stand for any formulas without FRE, and not for variables
-- alone: FRE would see the strings of the other side. A formula that an operator of the law would part stands in parentheses there, as
-- in any text; parentheses change nothing of what it comes to. A statement has the proof of its name, in snake case, in `proofs/Texts.antt` or
-- `proofs/Wholes.antt`.
use Rattle.std.specs.Prelude.{◌≡◌, Bool, true, false, not, ◌&&◌, ◌||◌, List, ◌++◌, ℕ, ◌≤◌, ◌<◌, eqb, length}
use Rattle.whole.specs.Texts.{longest_string}
use Rattle.whole.specs.declared.arithmetic.Operator.TheVariants.{Multiply, Divide, Modulo, Add, And, Or}
use Rattle.whole.specs.declared.errors.Error.TheVariants.{OutOfStringSpace}
use Rattle.words.specs.declared.symbols.Function.{Function}
use Rattle.words.specs.declared.symbols.Function.TheVariants.{Len, Asc, Chr, Left, Right, Mid, Space, String, Instr, Str, Hex, Val, Abs, Sgn, Fre}
use Rattle.grammar.specs.Trees.{Formula, number, variable, text, inside, minus, complement, two_sided, call, Arguments, none, also}
use Rattle.variables.specs.Strings as string
use Rattle.variables.specs.Strings.{Value, whole, Room, Outcome, value, fault}
use Rattle.variables.specs.Variables.{Variables}
use Rattle.operators.specs.Values.{value_of}

-- ---- formulas without FRE

abbrev pub is_fre : Function → Bool
is_fre Len = false
is_fre Asc = false
is_fre Chr = false
is_fre Left = false
is_fre Right = false
is_fre Mid = false
is_fre Space = false
is_fre String = false
is_fre Instr = false
is_fre Str = false
is_fre Hex = false
is_fre Val = false
is_fre Abs = false
is_fre Sgn = false
is_fre Fre = true

unfoldable mutual
  pub without_fre : Formula → Bool
  without_fre (number w) = true
  without_fre (variable k name) = true
  without_fre (text b) = true
  without_fre (inside f) = without_fre f
  without_fre (minus f) = without_fre f
  without_fre (complement f) = without_fre f
  without_fre (two_sided op f g) = without_fre f && without_fre g
  without_fre (call f a) = not (is_fre f) && none_with_fre a

  pub none_with_fre : Arguments → Bool
  none_with_fre none = true
  none_with_fre (also a f) = none_with_fre a && without_fre f

-- ---- what a formula gives

-- worked out by itself, with these variables and in this room, a formula without FRE comes to a value
pub record Gives (vars : Variables) (room : Room) (f : Formula) (v : Value) : Type 0 where
  pub free : without_fre f ≡ true
  pub after : Room
  pub is : value_of f vars room ≡ value v after

-- a whole number is held as a word of 16 bits
abbrev pub words : ℕ
words = 65536

pub record GivesWhole (vars : Variables) (room : Room) (f : Formula) (w : ℕ) : Type 0 where
  pub gives : Gives vars room f (whole w)
  pub word : w < words

-- a string holds 0 to 255 bytes
pub record GivesText (vars : Variables) (room : Room) (f : Formula) (b : List ℕ) : Type 0 where
  pub gives : Gives vars room f (string.text b)
  pub short : length b ≤ longest_string

-- 14, or a value
pub data FourteenOr (v : Value) : Outcome → Type 0 where
  fourteen : {room : Room} → FourteenOr v (fault OutOfStringSpace room)
  comes : {room : Room} → FourteenOr v (value v room)

-- ---- LEFT$(X$,N)+MID$(X$,N+1) is X$

abbrev pub parted : Formula → Formula → Formula
parted x n =
    two_sided Add (call Left (also (also none x) n)) (call Mid (also (also none x) (two_sided Add n (number 1))))

-- the largest N
abbrev pub last_part : ℕ
last_part = 254

-- For N from 0 to 254: where X$ and N give a string and such a number, LEFT$(X$,N)+MID$(X$,N+1) comes to the same string or to 14, and to
-- nothing else. It does not say where 14 comes: the right side needs more space than X$ alone. Ruled out: a MID$ that counts from 0; a LEFT$
-- that refuses a string shorter than N.
abbrev pub PartsJoinAgain : Type 0
PartsJoinAgain =
    (vars : Variables) (room : Room) (X N : Formula) (x : List ℕ) (n : ℕ) → GivesText vars room X x → Gives vars room N (whole n)
    → n ≤ last_part
    → FourteenOr (string.text x) (value_of (parted X N) vars room)

-- ---- joining three strings, bracketed to the left and to the right; A$+B$+C$ is as the first

abbrev pub left_first : Formula → Formula → Formula → Formula
left_first a b c = two_sided Add (inside (two_sided Add a b)) c

abbrev pub right_first : Formula → Formula → Formula → Formula
right_first a b c = two_sided Add a (inside (two_sided Add b c))

-- one of them answers 14, or both give these bytes
pub record SameBytes (b : List ℕ) (one other : Outcome) : Type 0 where
  pub left : FourteenOr (string.text b) one
  pub right : FourteenOr (string.text b) other

-- Where three formulas give strings of at most 255 bytes in all, (A$+B$)+C$ and A$+(B$+C$) each come to the bytes of the three in their order, or
-- to 14, and to nothing else. It does not say where 14 comes. Ruled out: a `+` that tests its result against 254 bytes; one that puts the right
-- side's bytes first.
abbrev pub BracketsDoNotMatter : Type 0
BracketsDoNotMatter =
    (vars : Variables) (room : Room) (A B C : Formula) (a b c : List ℕ) → GivesText vars room A a → GivesText vars room B b
    → GivesText vars room C c → length (a ++ (b ++ c)) ≤ longest_string
    → SameBytes (a ++ (b ++ c)) (value_of (left_first A B C) vars room) (value_of (right_first A B C) vars room)

-- ---- NOT (A AND B) is NOT A OR NOT B

abbrev pub not_both : Formula → Formula → Formula
not_both a b = complement (inside (two_sided And a b))

abbrev pub either_not : Formula → Formula → Formula
either_not a b = two_sided Or (complement a) (complement b)

-- For all whole numbers: where A and B give whole numbers, both sides give one and the same, and never 14. It says nothing where one of them gives a
-- string or an error. Ruled out: a NOT that changes the sign; an OR that adds.
abbrev pub NotOfAnd : Type 0
NotOfAnd =
    (vars : Variables) (room : Room) (A B : Formula) (a b : ℕ) → GivesWhole vars room A a → GivesWhole vars room B b
    → (w : ℕ) × Gives vars room (not_both A B) (whole w) × Gives vars room (either_not A B) (whole w)

-- ---- A is (A\B)*B + A MOD B

abbrev pub divided_again : Formula → Formula → Formula
divided_again a b = two_sided Add (two_sided Multiply (inside (two_sided Divide a b)) b) (two_sided Modulo a b)

-- the words of -32768 and -1
abbrev pub lowest : ℕ
lowest = 0x8000

abbrev pub minus_one : ℕ
minus_one = 0xFFFF

-- B is 0, or A is -32768 and B is -1
abbrev pub excepted : ℕ → ℕ → Bool
excepted a b = eqb b 0 || (eqb a lowest && eqb b minus_one)

-- Where A and B give whole numbers and B is not 0, (A\B)*B + A MOD B gives A, except for -32768 and -1: there A\B is 6. It never answers 14.
-- It says nothing of A alone where B is excepted. Ruled out, each alone: a division that rounds -7\2 down to -4; a MOD that has the sign of the
-- right side.
abbrev pub DivisionComesBack : Type 0
DivisionComesBack =
    (vars : Variables) (room : Room) (A B : Formula) (a b : ℕ) → GivesWhole vars room A a → GivesWhole vars room B b → excepted a b ≡ false
    → Gives vars room (divided_again A B) (whole a)
