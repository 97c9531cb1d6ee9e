use Rattle.feeding.proofs.taking.take_item.Goals as goal

pub item_in-requires : goal.item_in-requires
item_in-requires c = let s = rw c.in-Some.is at (c.seek.ensures c.requires.fed.items c.requires.fed.feeds) in record { loads = c.requires.loads; is = s.0; some = c.requires.fed.items; inside = s.1 }

pub returns-in-None : goal.returns-in-None
returns-in-None c = λ l h. rw c.in-None.is at (c.seek.ensures l h)

pub returns-in-Some : goal.returns-in-Some
returns-in-Some c = λ l h. let s = rw c.in-Some.is at (c.seek.ensures l h) in c.item_in.ensures l s.1
