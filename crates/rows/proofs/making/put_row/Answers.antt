-- The numbers of a row, stored one after the other.
use native.Mathlib.Nat.{add-zero}
use native.Mathlib.Numerals.{add-one, add-two, add-three, add-four, add_five}
use borrow.Author.Rules.{rules}
use lib.ListN.{length-set}
use Rattle.rows.proofs.making.put_row.Goals as goal

pub bounds-rows-first-2 : goal.bounds-rows-first-2
bounds-rows-first-2 c = simp length-set (search rules)

pub bounds-rows-first-3 : goal.bounds-rows-first-3
bounds-rows-first-3 c = simp length-set (search rules)

pub bounds-rows-first-4 : goal.bounds-rows-first-4
bounds-rows-first-4 c = simp length-set (search rules)

pub bounds-rows-first-5 : goal.bounds-rows-first-5
bounds-rows-first-5 c = simp length-set (search rules)

pub bounds-rows-first-6 : goal.bounds-rows-first-6
bounds-rows-first-6 c = simp length-set (search rules)

pub shape_of-rows : goal.shape_of-rows
shape_of-rows c = simp length-set

pub returns : goal.returns
returns c = simp (add-zero, add-one, add-two, add-three, add-four, add_five)
