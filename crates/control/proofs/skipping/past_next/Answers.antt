-- What the NEXT at the spot names, and what is left of its part.
use mathlib.Core.Path.{refl, sym, ◌∙◌}
use native.Mathlib.Omega.{arith}
use Rattle.words.specs.Names.{name_bytes, telling_of}
use Rattle.order.proofs.Texting.{here_ahead, told}
use Rattle.control.proofs.Skips.{spot_names}
use Rattle.control.proofs.skipping.past_next.Goals as goal

pub slice_bounds-names_other-count : goal.slice_bounds-names_other-count
slice_bounds-names_other-count c = (told (here_ahead c.requires.ahead)).low

pub slice_bounds-names_other-start : goal.slice_bounds-names_other-start
slice_bounds-names_other-start c = (told (here_ahead c.requires.ahead)).low

pub slice_bounds-names_other-end : goal.slice_bounds-names_other-end
slice_bounds-names_other-end c = let t = told (here_ahead c.requires.ahead) in omega (arith, t.low, t.high)

pub returns-then-names_other : goal.returns-then-names_other
returns-then-names_other c = λ x xs a n.
    let e = spot_names (telling_of (name_bytes c.args.own.now c.args.name)) a n in
    rw (sym e ∙ sym (rw ((told (here_ahead a)).body, c.lead_of-lead.ensures) at c.names_other.ensures) ∙ c.if-names_other.true) refl

pub returns : goal.returns
returns c = λ x xs a n.
    let e = spot_names (telling_of (name_bytes c.args.own.now c.args.name)) a n in
    let p = c.position_past.ensures x xs a in
    rw (sym e ∙ sym (rw ((told (here_ahead a)).body, c.lead_of-lead.ensures) at c.names_other.ensures) ∙ c.if-names_other.false)
    (record { to = c.position_past.result; is = refl; placed = p.0; there = p.1 })
