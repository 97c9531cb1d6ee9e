use Rattle.repeating.proofs.Back.{wend_missing, wend_found}
use native.Mathlib.Omega.{arith}
use Rattle.repeating.proofs.wends.turn_back.Goals as goal

pub overflow_add-m : goal.overflow_add-m
overflow_add-m c = let h = rw c.in-Some.is at c.requires in omega (arith, h, c.well_formed)

pub returns-in-None : goal.returns-in-None
returns-in-None c = λ text input space room tables line at after e s. rw (c.fails.ensures, c.in-None.is) (wend_missing c.args.entry line at after e s)

pub returns-in-Some : goal.returns-in-Some
returns-in-Some c = λ text input space room tables line at after e s.
    rw (c.turned_to.ensures, c.back.ensures, c.in-Some.is) (wend_found c.args.entry line at after e s c.in-Some.slot (rw c.in-Some.is at c.requires))
