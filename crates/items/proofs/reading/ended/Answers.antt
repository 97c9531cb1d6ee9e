-- Each arm is a byte that the definition names.
use mathlib.Core.Path.{◌≡◌}
use native.Mathlib.Omega.{arith}
use lib.ListN.{get_or}
use borrow.Author.Rules.{rules}
use borrow.Author.Tests.{ne_eqb}
use Rattle.items.proofs.Inside.{ended_past, ended_here, ended_over}
use Rattle.items.proofs.reading.ended.Goals as goal

pub returns-then-line-end : goal.returns-then-line-end
returns-then-line-end c = rw (ended_past _ _ _ _ c.if-line-end.true) c.read.ensures

pub returns-in-44 : goal.returns-in-44
returns-in-44 c = rw (ended_here _ _ _ _ c.if-line-end.false, c.in-44.is) c.read-in-44.ensures

pub returns-in-58 : goal.returns-in-58
returns-in-58 c = rw (ended_over _ _ _ _ c.if-line-end.false (search rules)) c.read-in-58.ensures

pub returns-in_default : goal.returns-in_default
returns-in_default c =
    let b = get_or c.args.line.now c.args.end.0 0 in
    let comma : b ≡ 44 → ⊥ = λ e. grind arith in
    let colon : b ≡ 58 → ⊥ = λ e. grind arith in
    let quote : b ≡ 39 → ⊥ = λ e. grind arith in
    rw (ended_here _ _ _ _ c.if-line-end.false, ne_eqb b 44 comma, ne_eqb b 58 colon, ne_eqb b 39 quote)
