-- Each arm is a clause of the definition, and the last one is what no other arm takes.
use borrow.Enum.Refused.{opened as unsealed}
use mathlib.Core.Path.{◌≡◌, ap, ◌∙◌}
use lib.ListN.{take, drop}
use Rattle.whole.specs.Digits.{val_of}
use Rattle.whole.specs.Whole.{magnitude, signum}
use Rattle.words.specs.declared.symbols.Function.TheVariants.{Fre}
use Rattle.functions.proofs.Calls.{len_made, val_made, abs_made, sgn_made, free_made, last_number}
use Rattle.functions.proofs.calling.number_called.Goals as goal

-- LEN
pub returns-in-Len : goal.returns-in-Len
returns-in-Len c ahead = rw c.in-Len.is (len_made c.args.space.now c.args.used.0 c.args.given c.requires.0 ahead c.first_length-len.ensures)

-- VAL
pub returns-in-Val : goal.returns-in-Val
returns-in-Val c ahead = rw c.in-Val.is
    (val_made c.args.space.now c.args.used.0 c.args.given c.requires.0 ahead c.val_of.result
    (c.val_of.ensures ∙ ap (λ n. val_of (take n (drop c.args.used.0 c.args.space.now))) c.first_length-len.ensures))

-- ABS
pub returns-in-Abs : goal.returns-in-Abs
returns-in-Abs c ahead = rw c.in-Abs.is
    (abs_made c.args.space.now c.args.used.0 c.args.given c.requires.0 ahead c.absolute.result (c.absolute.ensures ∙ ap magnitude c.first_word-word.ensures))

-- SGN
pub returns-in-Sgn : goal.returns-in-Sgn
returns-in-Sgn c ahead = rw c.in-Sgn.is
    (sgn_made c.args.space.now c.args.used.0 c.args.given c.requires.0 ahead (c.sign.ensures ∙ ap signum c.first_word-word.ensures))

-- FRE
pub returns-in_default : goal.returns-in_default
returns-in_default c ahead = let e : c.args.function ≡ Fre = last_number c.args.function c.requires.1 (unsealed c.in_default.in_default-own.keys7) in
    rw e (free_made c.args.space.now c.args.used.0 c.args.given c.requires.0 ahead)
