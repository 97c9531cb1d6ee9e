-- The mark is told by the byte that stands there.
use mathlib.Core.Path.{◌≡◌}
use native.Mathlib.Omega.{arith}
use borrow.Author.Tests.{ne_eqb}
use Rattle.scanner.specs.Tokens.{mark_of}
use Rattle.scanner.proofs.Beginnings.{mark_here}
use Rattle.scanner.proofs.tokens.mark_at.Goals as goal

pub returns-in-36 : goal.returns-in-36
unfolding mark_of
returns-in-36 c = rw (mark_here, ← c.byte_at.ensures, c.in-36.is)

pub returns-in-37 : goal.returns-in-37
unfolding mark_of
returns-in-37 c = rw (mark_here, ← c.byte_at.ensures, c.in-37.is)

pub returns-in_default : goal.returns-in_default
unfolding mark_of
returns-in_default c =
    let dollar : c.byte_at.result ≡ 36 → ⊥ = λ e. grind arith in
    let percent : c.byte_at.result ≡ 37 → ⊥ = λ e. grind arith in
    rw (mark_here, ← c.byte_at.ensures, ne_eqb _ _ dollar, ne_eqb _ _ percent)
