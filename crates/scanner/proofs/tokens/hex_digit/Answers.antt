-- A hexadecimal digit up to the byte of 9 is a digit; any other is a letter from A to F.
use Prim.Native.Nat.{◌≤◌}
use native.Mathlib.Omega.{arith}
use Rattle.whole.proofs.Reading.{digit_from}
use Rattle.words.specs.Classes.{hex_digit}
use Rattle.scanner.proofs.Hexadecimals.{hex_low, hex_high, hex_letter}
use Rattle.scanner.proofs.tokens.hex_digit.Goals as goal

pub overflow_sub-byte : goal.overflow_sub-byte
overflow_sub-byte c = digit_from _ (hex_low _ c.requires c.if-byte-le57.true)

pub returns-then-byte-le57 : goal.returns-then-byte-le57
unfolding hex_digit
returns-then-byte-le57 c =
    let low : 48 ≤ c.args.byte = digit_from _ (hex_low _ c.requires c.if-byte-le57.true) in
    (rw (hex_low _ c.requires c.if-byte-le57.true, c.from.ensures), omega (arith, low))

pub overflow_sub-capital : goal.overflow_sub-capital
overflow_sub-capital c =
    let high : (65 ≤ c.capital.result) × (c.capital.result ≤ 70) = rw c.capital.ensures (hex_high _ c.requires c.if-byte-le57.false) in
    high.0

pub returns : goal.returns
returns c =
    let high : (65 ≤ c.capital.result) × (c.capital.result ≤ 70) = rw c.capital.ensures (hex_high _ c.requires c.if-byte-le57.false) in
    (rw (hex_letter _ c.requires c.if-byte-le57.false, c.from-2.ensures, c.capital.ensures), omega (arith, high.1))
