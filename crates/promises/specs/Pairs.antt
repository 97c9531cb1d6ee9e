-- What the definitions' pairs come to, for their reader; no demand rests on it. A statement has the proof of its name, in snake case, in
-- `proofs/Pairs.antt`.
--
-- `partner` (machine/specs/Order) gives a WHILE its WEND by counting those that wait. Many would rather think of a stack of open WHILEs, from
-- which each WEND takes the topmost. Both give the same pairs, and no two WHILEs have one WEND. The same holds of FOR and NEXT, and of any other
-- two words, since `test` is any.
use Rattle.std.specs.Prelude.{◌≡◌, cond, List, [], ◌∷◌, ℕ, zero, suc, ◌≤◌, eqb}
use Rattle.grammar.specs.Trees.{Statement}
use Rattle.statements.specs.Parts.{head_of}
use Rattle.machine.specs.Order.{Stand, Bracket, opens, closes, neither, Partner, none, some, partner}

-- ---- statements by their number in the text

-- one that opens, and the one that closes it
pub record Pair : Type 0 where
  pub open_at : ℕ
  pub close_at : ℕ

pub data Closing : Type 0 where
  nowhere : Closing
  at : ℕ → Closing

-- the number of the first statement that closes, once those that open before it have been paired: as `partner` goes; k wait already, and the
-- first of the statements has the number i
abbrev pub closed_by : Bracket → ℕ → ℕ → (ℕ → Closing) → Closing
closed_by opens k i go = go (suc k)
closed_by closes zero i go = at i
closed_by closes (suc k) i go = go k
closed_by neither k i go = go k

unfoldable pub closing_at : (Statement → Bracket) → ℕ → ℕ → List Stand → Closing
closing_at test k i [] = nowhere
closing_at test k i (x ∷ xs) = closed_by (test (head_of x.part)) k i (λ n. closing_at test n (suc i) xs)

abbrev pub with_pair : ℕ → Closing → List Pair → List Pair
with_pair o nowhere ps = ps
with_pair o (at c) ps = record { open_at = o; close_at = c } ∷ ps

-- the pairs by the definition: each that opens, with its partner
abbrev pub paired_from : Bracket → ℕ → Closing → List Pair → List Pair
paired_from opens i c ps = with_pair i c ps
paired_from closes i c ps = ps
paired_from neither i c ps = ps

unfoldable pub pairs_of : (Statement → Bracket) → ℕ → List Stand → List Pair
pairs_of test i [] = []
pairs_of test i (x ∷ xs) = paired_from (test (head_of x.part)) i (closing_at test 0 (suc i) xs) (pairs_of test (suc i) xs)

-- the pairs by a stack of those that are open, the latest first
abbrev pub stacked_by : Bracket → ℕ → List ℕ → (List ℕ → List Pair) → List Pair
stacked_by opens i os go = go (i ∷ os)
stacked_by closes i [] go = go []
stacked_by closes i (o ∷ os) go = record { open_at = o; close_at = i } ∷ go os
stacked_by neither i os go = go os

unfoldable pub stack_pairs : (Statement → Bracket) → ℕ → List ℕ → List Stand → List Pair
stack_pairs test i os [] = []
stack_pairs test i os (x ∷ xs) = stacked_by (test (head_of x.part)) i os (λ rest. stack_pairs test (suc i) rest xs)

-- what holds of each
abbrev pub OfAll : (Pair → Type 0) → List Pair → Type 0
OfAll P [] = Unit {0}
OfAll P (p ∷ ps) = P p × OfAll P ps

-- ---- what is shown

-- the statement with a number
unfoldable pub numbered : ℕ → List Stand → ℕ → Partner
numbered i [] n = none
numbered i (x ∷ xs) n = cond (eqb i n) (some x) (numbered (suc i) xs n)

abbrev pub standing : ℕ → List Stand → Closing → Partner
standing i xs nowhere = none
standing i xs (at n) = numbered i xs n

-- `partner` gives the statement with the number by which it is counted here.
abbrev pub PartnersAreNumbered : Type 0
PartnersAreNumbered = (test : Statement → Bracket) (i : ℕ) (xs : List Stand) → partner test 0 xs ≡ standing i xs (closing_at test 0 i xs)

-- The pairs by the definition are those by a stack: whatever holds of all of the ones holds of all of the others. It rules out a definition in which an
-- inner pair is not counted, and one in which a WEND before all WHILEs takes one of them.
pub record SamePairs (ps qs : List Pair) : Type 1 where
  pub there : (P : Pair → Type 0) → OfAll P ps → OfAll P qs
  pub back : (P : Pair → Type 0) → OfAll P qs → OfAll P ps

abbrev pub PairsAreStacked : Type 1
PairsAreStacked = (test : Statement → Bracket) (i : ℕ) (xs : List Stand) → SamePairs (pairs_of test i xs) (stack_pairs test i [] xs)

-- No two that open have one that closes: of the pairs by a stack each closes before all after it do, so no number closes twice.
abbrev pub Closed : ℕ → List Pair → Type 0
Closed low [] = Unit {0}
Closed low (p ∷ ps) = (low ≤ p.close_at) × Closed (suc p.close_at) ps

abbrev pub NoTwoHaveOne : Type 0
NoTwoHaveOne = (test : Statement → Bracket) (i : ℕ) (xs : List Stand) → Closed i (stack_pairs test i [] xs)
