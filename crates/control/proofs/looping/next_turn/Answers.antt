use Rattle.control.proofs.Nexts.{next_missing}
use Rattle.control.proofs.looping.next_turn.Goals as goal

pub turn-requires : goal.turn-requires
turn-requires c = rw c.in-Some.is at c.requires

pub returns-in-None-clause-does : goal.returns-in-None-clause-does
returns-in-None-clause-does c = λ text input space room test only sound p. rw (c.fails.ensures, c.in-None.is) (next_missing text c.args.entry test _ only sound)

pub returns-in-Some-clause-does : goal.returns-in-Some-clause-does
returns-in-Some-clause-does c = λ text input space room test only sound p. rw c.in-Some.is (c.turn.ensures.does text input space room test only sound p)
