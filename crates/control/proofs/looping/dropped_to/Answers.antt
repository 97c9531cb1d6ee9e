use Rattle.control.proofs.looping.dropped_to.Goals as goal

pub returns-in-None : goal.returns-in-None
returns-in-None c = λ tables. rw c.in-None.is

pub returns-in-Some : goal.returns-in-Some
returns-in-Some c = λ tables. rw c.in-Some.is
