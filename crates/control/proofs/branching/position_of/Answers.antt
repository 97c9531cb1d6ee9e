use Rattle.control.proofs.branching.position_of.Goals as goal

pub returns-in-Some : goal.returns-in-Some
returns-in-Some c = λ m. rw c.in-Some.is

pub returns-in-None : goal.returns-in-None
returns-in-None c = λ m. rw c.in-None.is
