-- Whole numbers are -32768 to 32767. A whole number is held as a word, a number below 65536, in two's complement.
-- What an operator answers is said over ℤ: `num` is the number that a word holds, `word` the word that holds a number,
-- and `fit` the answer of an operation whose result is z.
use Rattle.whole.specs.declared.errors.Error.{Error}
use Rattle.std.specs.Prelude.{Bool, true, false, not, cond, ℕ, zero, suc, ◌-◌, ℤ, pos, negsuc, ◌+ℤ◌, ◌-ℤ◌, ◌*ℤ◌, neg_ℤ, nat_abs, ltb, eqb, Err, Ok, Result}
use Rattle.std.specs.Int.Signed.{lt_z, le_z, quot_z, rem_z}
use Rattle.std.specs.Int.Bits.{bit_and, bit_or, bit_xor}
use Rattle.whole.specs.declared.errors.Error.TheVariants.{Overflow, DivisionByZero}
use Rattle.whole.specs.declared.arithmetic.Operator.{Operator}
use Rattle.whole.specs.declared.arithmetic.Operator.TheVariants.{
  Multiply,
  Divide,
  Modulo,
  Add,
  Subtract,
  Equal,
  Unequal,
  Less,
  Greater,
  AtMost,
  AtLeast,
  And,
  Or,
  Xor,
  Eqv,
  Imp,
}

-- the number that a word holds: the word itself, or 65536 less from 32768 on
unfoldable pub num : ℕ → ℤ
num w = cond (ltb w 32768) (pos w) (pos w -ℤ pos 65536)

-- the word that holds a number: the number itself, or 65536 more below zero
abbrev pub word : ℤ → ℕ
word (pos n) = n
word (negsuc n) = 65535 - n

-- a result outside -32768 to 32767 is error 6
unfoldable pub fit : ℤ → Result ℕ Error
fit z = cond (lt_z (pos 32767) z) (Err Overflow) (cond (lt_z z (negsuc 32767)) (Err Overflow) (Ok (word z)))

-- a zero right side is error 11
abbrev pub unless_zero : ℕ → Result ℕ Error → Result ℕ Error
unless_zero b answer = cond (eqb b 0) (Err DivisionByZero) answer

-- comparisons give -1 or 0
abbrev pub say : Bool → Result ℕ Error
say true = Ok (word (negsuc 0))
say false = Ok (word (pos 0))

-- logic is on the 16 bits: the word with each of them turned
abbrev pub flipped : ℕ → ℕ
flipped a = 65535 - a

-- the two-sided operators, each at its left and right side
-- `quot_z` cuts toward zero, `rem_z` has the sign of the left side; words are equal just where their numbers are
abbrev pub applied : Operator → ℕ → ℕ → Result ℕ Error
applied Multiply a b = fit (num a *ℤ num b)
applied Divide a b = unless_zero b (fit (quot_z (num a) (num b)))
applied Modulo a b = unless_zero b (fit (rem_z (num a) (num b)))
applied Add a b = fit (num a +ℤ num b)
applied Subtract a b = fit (num a -ℤ num b)
applied Equal a b = say (eqb a b)
applied Unequal a b = say (not (eqb a b))
applied Less a b = say (lt_z (num a) (num b))
applied Greater a b = say (lt_z (num b) (num a))
applied AtMost a b = say (le_z (num a) (num b))
applied AtLeast a b = say (le_z (num b) (num a))
applied And a b = Ok (bit_and a b)
applied Or a b = Ok (bit_or a b)
applied Xor a b = Ok (bit_xor a b)
applied Eqv a b = Ok (flipped (bit_xor a b))
applied Imp a b = Ok (bit_or (flipped a) b)

-- the minus sign
abbrev pub negated : ℕ → Result ℕ Error
negated a = fit (neg_ℤ (num a))

-- ABS
abbrev pub magnitude : ℕ → Result ℕ Error
magnitude a = fit (pos (nat_abs (num a)))

-- -1 below zero, 0 at zero, 1 above
abbrev pub sign_of : ℤ → ℤ
sign_of (negsuc n) = negsuc 0
sign_of (pos zero) = pos 0
sign_of (pos (suc n)) = pos 1

-- SGN
abbrev pub signum : ℕ → ℕ
signum a = word (sign_of (num a))
