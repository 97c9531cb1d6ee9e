use Rattle.repeating.proofs.whiles.repeat.Goals as goal

pub next_turn-requires : goal.next_turn-requires
next_turn-requires c = (c.requires.0, (c.requires.1.0, (rw c.in-Some.is at c.requires.1.1.0, c.requires.1.1.1)))

pub returns-in-None : goal.returns-in-None
returns-in-None c = λ input room entry f u sound k.
    rw c.in-None.is (c.first_turn.ensures input room entry f u sound k)

pub returns-in-Some : goal.returns-in-Some
returns-in-Some c = λ input room entry f u sound k.
    rw c.in-Some.is (c.next_turn.ensures input room entry f u sound k)
