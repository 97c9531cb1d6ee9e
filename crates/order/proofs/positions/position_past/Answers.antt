-- What is left of the part after the statement at the spot.
use native.Mathlib.Omega.{arith}
use Rattle.order.proofs.Texting.{here_ahead, told}
use Rattle.order.proofs.Passing.{past_spot}
use Rattle.order.proofs.positions.position_past.Goals as goal

pub slice_bounds-body-count : goal.slice_bounds-body-count
slice_bounds-body-count c = (told (here_ahead c.requires.ahead)).low

pub slice_bounds-body-start : goal.slice_bounds-body-start
slice_bounds-body-start c = (told (here_ahead c.requires.ahead)).low

pub slice_bounds-body-end : goal.slice_bounds-body-end
slice_bounds-body-end c = let t = told (here_ahead c.requires.ahead) in omega (arith, t.low, t.high)

pub returns : goal.returns
returns c = λ x xs a. rw c.past_read.ensures (past_spot a c.statement_at.ensures)
