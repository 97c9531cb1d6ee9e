use Rattle.control.proofs.Jumps.{back_missing, back_found}
use Rattle.control.proofs.jumping.come_back.Goals as goal

pub returns-in-None : goal.returns-in-None
returns-in-None c = λ text input space room tables at after s. rw (c.fails.ensures, c.in-None.is) (back_missing c.args.entry at after s)

pub returns-in-Some : goal.returns-in-Some
returns-in-Some c = λ text input space room tables at after s.
    rw (c.turned_to.ensures, c.back.ensures, c.in-Some.is) (back_found c.args.entry at after s c.in-Some.slot (rw c.in-Some.is at c.requires))
