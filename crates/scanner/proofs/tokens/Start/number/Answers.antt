-- What `leading_digits` reads is the number's digits; a value above 65535 is above every limit.
use mathlib.Core.Path.{◌≡◌, ap}
use mathlib.Core.List.{List}
use Prim.Native.Nat.{ℕ, ◌+◌, ◌<◌}
use native.Mathlib.Omega.{arith}
use borrow.Author.Tests.{le-leb, lt-leb}
use lib.ListN.{length, drop}
use Rattle.whole.specs.Digits.{is_digit, leading_digits, leading_value, digits_of}
use Rattle.whole.specs.declared.digits.Digits.{Digits}
use Rattle.whole.proofs.Reading.{part_from, value_in, value_out, worth_read}
use Rattle.words.proofs.Runs.{run_within}
use Rattle.words.specs.Places.{largest_line_number}
use Rattle.scanner.specs.Tokens.{number_token}
use Rattle.scanner.proofs.tokens.Start.number.Goals as goal
use Rattle.scanner.proofs.tokens.Start.number.Goals.{in_default-via-in-Some-2+else-value-le-LARGEST, in_default-via-in_default}

-- how many digits were read
counted : {d : Digits} {t : List ℕ} (s : List ℕ) → d ≡ digits_of t → t ≡ s → d.count ≡ length (leading_digits s)
unfolding digits_of
counted s e f = rw (e, f)

pub overflow_add-next : goal.overflow_add-next
overflow_add-next c =
    let at = c.args.self.at.0 in
    let line = c.args.self.line.now in
    let count = counted (drop at line) c.leading_digits-digits.ensures (part_from line at) in
    omega (arith, run_within is_digit line at (ap (λ n. at + n) count) (omega arith))

pub returns-in-Some : goal.returns-in-Some
unfolding number_token
returns-in-Some c =
    let at = c.args.self.at.0 in
    let line = c.args.self.line.now in
    let s = drop at line in
    let count = counted s c.leading_digits-digits.ensures (part_from line at) in
    let value = value_in (leading_value s) c.in-Some.value c.in-Some.is (worth_read s c.leading_digits-digits.ensures (part_from line at)) in
    rw (le-leb (leading_value s) 32767 (omega arith), value, ← count) c.up_to.ensures

pub returns-in-Some-2 : goal.returns-in-Some-2
unfolding number_token
returns-in-Some-2 c =
    let at = c.args.self.at.0 in
    let line = c.args.self.line.now in
    let s = drop at line in
    let count = counted s c.leading_digits-digits.ensures (part_from line at) in
    let worth = worth_read s c.leading_digits-digits.ensures (part_from line at) in
    let value = value_in (leading_value s) c.in-Some-2.value c.in-Some-2.is worth in
    let tried = value_in (leading_value s) c.in-Some.value c.in-Some.is worth in
    rw (lt-leb (leading_value s) 32767 (omega arith), le-leb (leading_value s) largest_line_number (omega arith), value, ← count) c.up_to-in-Some-2.ensures

pub returns-in_default : goal.returns-in_default
unfolding number_token
returns-in_default c =
    let at = c.args.self.at.0 in
    let line = c.args.self.line.now in
    let s = drop at line in
    let worth = worth_read s c.leading_digits-digits.ensures (part_from line at) in
    let large : largest_line_number < leading_value s = elim c.in_default.branch [
      | in_default-via-in-Some-2+else-value-le-LARGEST w ↦ let value = value_in (leading_value s) w.in-Some-2.value w.in-Some-2.is worth in omega arith
      | in_default-via-in_default w ↦ let out = value_out (leading_value s) w.in_default.is worth in omega arith
    ] in
    rw (lt-leb (leading_value s) 32767 (omega arith), lt-leb (leading_value s) largest_line_number large) c.unreadable.ensures
