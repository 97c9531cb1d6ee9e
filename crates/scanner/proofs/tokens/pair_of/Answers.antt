-- The tests are those of the table of pairs.
use mathlib.Core.Path.{◌≡◌}
use native.Mathlib.Omega.{arith}
use borrow.Author.Tests.{ne_eqb}
use Rattle.whole.specs.Bytes.{bytes}
use Rattle.words.specs.Spellings.{same_bytes, meaning}
use Rattle.words.specs.Classes.{pairs}
use Rattle.scanner.proofs.tokens.pair_of.Goals as goal

pub returns-in_default : goal.returns-in_default
unfolding bytes same_bytes meaning pairs
returns-in_default c = let a : c.args.second ≡ 62 → ⊥ = λ e. grind arith in let b : c.args.second ≡ 61 → ⊥ = λ e. grind arith in
    simp (c.in_default.is-0, ne_eqb _ _ a, ne_eqb _ _ b)

pub returns-in_default-2 : goal.returns-in_default-2
unfolding bytes same_bytes meaning pairs
returns-in_default-2 c = let b : c.args.second ≡ 61 → ⊥ = λ e. grind arith in simp (c.in_default.is-0, ne_eqb _ _ b)

pub returns-in_default-3 : goal.returns-in_default-3
unfolding bytes same_bytes meaning pairs
returns-in_default-3 c = let a : c.args.first ≡ 60 → ⊥ = λ e. grind arith in let b : c.args.first ≡ 62 → ⊥ = λ e. grind arith in
    simp (ne_eqb _ _ a, ne_eqb _ _ b)

pub returns-in-60-eq62 : goal.returns-in-60-eq62
unfolding bytes same_bytes meaning pairs
returns-in-60-eq62 c = simp (c.in-60-eq62.is-0, c.in-60-eq62.is-1)

pub returns-in-60-eq61 : goal.returns-in-60-eq61
unfolding bytes same_bytes meaning pairs
returns-in-60-eq61 c = simp (c.in-60-eq61.is-0, c.in-60-eq61.is-1)

pub returns-in-62-eq61 : goal.returns-in-62-eq61
unfolding bytes same_bytes meaning pairs
returns-in-62-eq61 c = simp (c.in-62-eq61.is-0, c.in-62-eq61.is-1)
