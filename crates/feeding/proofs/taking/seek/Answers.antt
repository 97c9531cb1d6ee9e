use mathlib.Core.Path.{sym, ap, ◌∙◌}
use borrow.Author.Tests.{not-true, not-false}
use Rattle.loader.specs.Lines.{line_at}
use Rattle.machine.proofs.Standing.{none_here, told_as}
use Rattle.feeding.proofs.taking.seek.Goals as goal

pub walk_from-requires : goal.walk_from-requires
walk_from-requires c = let z = not-true c.args.feed.inside c.if-not-feed.true in record { loads = c.requires.loads; some = c.requires.fed.items; outside = rw z at c.requires.fed.feeds }

pub first_from-requires : goal.first_from-requires
first_from-requires c = let z = not-true c.args.feed.inside c.if-not-feed.true in let o = c.walk_from.ensures c.requires.fed.items (rw z at c.requires.fed.feeds) in record { xs = o.xs; walks = o.walks }

pub returns-then-not-feed : goal.returns-then-not-feed
returns-then-not-feed c = λ l h. let z = not-true c.args.feed.inside c.if-not-feed.true in let o = c.walk_from.ensures l (rw z at h) in rw o.all (c.first_from.ensures o.xs o.walks)

pub returns-in-None : goal.returns-in-None
returns-in-None c = λ l h. let z = not-false c.args.feed.inside c.if-not-feed.false in let i = rw z at h in none_here i.begins c.requires.loads (sym c.line_at.ensures ∙ c.in-None.is)

pub returns-in-Some : goal.returns-in-Some
returns-in-Some c = λ l h.
    let z = not-false c.args.feed.inside c.if-not-feed.false in
    let i = rw z at h in
    let e = sym c.line_at.ensures ∙ c.in-Some.is in
    let t = told_as i.begins c.requires.loads e in
    (ap (line_at c.args.text.now) t.starts ∙ e, rw t.starts i)
