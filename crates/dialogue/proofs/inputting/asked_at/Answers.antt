-- By whether a text comes first.
use borrow.Enum.Refused.{opened as unsealed}
use mathlib.Core.Path.{sym, ◌∙◌}
use native.Mathlib.Omega.{arith}
use Rattle.dialogue.proofs.Asking.{input_quoted, input_bare, quoted_inside, quoted_part}
use Rattle.dialogue.proofs.inputting.asked_at.Goals as goal

pub overflow_add-end : goal.overflow_add-end
overflow_add-end c = let h = quoted_inside c.requires.scans c.in-Quoted.is in
    record { fits = omega (arith, h, c.requires.short) }

pub returns-in-Quoted : goal.returns-in-Quoted
returns-in-Quoted c = let h = quoted_inside c.requires.scans c.in-Quoted.is in (
  omega arith,
  (
    omega (arith, h),
    λ prompt v u e.
        let k = input_quoted c.args.line.now c.args.first e c.in-Quoted.quotation c.in-Quoted.is in
        (k.1 ∙ sym (quoted_part c.args.line.now c.in-Quoted.quotation.at c.in-Quoted.quotation.len), rw (c.after_text.ensures, k.1) k.0),
  ),
)

pub returns-in_default : goal.returns-in_default
returns-in_default c = (
  omega arith,
  (
    omega arith,
    λ prompt v u e.
        let k = input_bare c.args.line.now c.args.first e (unsealed c.in_default.in_default-own.keys2) in
        (k.1, rw k.1 k.0),
  ),
)
