-- The loop keeps the value of the digits passed, which has four bits for each of them.
use mathlib.Core.Path.{sym, ap, ◌∙◌}
use Prim.Native.Nat.{ℕ, ◌+◌, ◌*◌, ◌^◌, ◌≤◌, ◌<◌}
use native.Mathlib.Nat.{pow-le-pow_right, pow-succ'}
use native.Mathlib.Numerals.{add-one}
use native.Mathlib.Omega.{arith}
use lib.ListN.{drop_of_length-le}
use Rattle.whole.proofs.Reading.{drop_next}
use Rattle.words.specs.Classes.{is_hex}
use Rattle.words.proofs.Runs.{run_passes}
use Rattle.scanner.specs.Tokens.{hex_from}
use Rattle.scanner.proofs.tokens.hex_value.Goals as goal

-- three digits take twelve bits
room : (i v : ℕ) → i ≤ 3 → v < 16 ^ i → v < 4096
room i v h b = omega (arith, pow-le-pow_right {n = 16} (omega arith) {i = i} {j = 3} h)

-- one digit more takes four bits more
more : (i v d : ℕ) → d < 16 → v < 16 ^ i → v * 16 + d < 16 ^ (i + 1)
more i v d h b = rw (add-one, pow-succ' 16 i) (omega arith)

pub overflow_mul-value : goal.overflow_mul-value
overflow_mul-value c = omega (arith, room _ _ (omega arith) c.loop-digit.invariant.0)

pub hex_digit-requires : goal.hex_digit-requires
hex_digit-requires c = run_passes is_hex c.args.digits.now c.loop-digit.digit-index (rw c.requires.1 c.loop-digit-test.true)

pub loop-digit-preserved : goal.loop-digit-preserved
unfolding hex_from
loop-digit-preserved c = (
  more c.loop-digit.digit-index c.loop-digit.value c.hex_digit.result c.hex_digit.ensures.1 c.loop-digit.invariant.0,
  rw c.hex_digit.ensures.0 (ap (hex_from c.loop-digit.value) (sym (drop_next c.args.digits.now c.loop-digit.digit-index (omega arith))) ∙ c.loop-digit.invariant.1),
)

pub returns : goal.returns
unfolding hex_from
returns c = rw (drop_of_length-le _ c.loop-digit-test.false) at c.loop-digit.invariant.1
