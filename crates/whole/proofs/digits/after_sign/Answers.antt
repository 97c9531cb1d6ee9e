-- Rests on: the sign is the first byte, which the code's match tells.
use mathlib.Core.Path.{sym, ap, ◌∙◌}
use borrow.Author.Rules.{rules}
use native.Mathlib.Omega.{arith}
use lib.ListN.{drop}
use Rattle.whole.proofs.Reading.{part_from}
use Rattle.whole.proofs.Items.{sign_first, no_sign}
use Rattle.whole.proofs.digits.after_sign.Goals as goal

pub returns-in-45 : goal.returns-in-45
returns-in-45 c = let s = c.args.bytes.now in part_from s 1 ∙ sym (ap (λ n. drop n s) (sign_first s c.in-45.len_at_least (search rules)))

pub returns-in_default-2 : goal.returns-in_default-2
returns-in_default-2 c = let s = c.args.bytes.now in sym (ap (λ n. drop n s) (no_sign s (λ h e. grind arith) (λ h e. grind arith)))
