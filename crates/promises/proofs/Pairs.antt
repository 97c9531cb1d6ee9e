-- Pairs by nesting are those by a stack of what is open.
use mathlib.Core.Path.{◌≡◌, refl, sym, ap, ap₂, ◌∙◌}
use mathlib.Core.List.{List, [], ◌∷◌}
use Prim.Native.Nat.{ℕ, zero, suc, ◌≤◌}
use native.Mathlib.Omega.{arith}
use borrow.Author.Tests.{eq-eqb, ne_eqb}
use Rattle.grammar.specs.Trees.{Statement}
use Rattle.statements.specs.Parts.{head_of}
use Rattle.machine.specs.Order.{Stand, Bracket, opens, closes, neither, paired, partner}
use Rattle.promises.specs.Pairs.{Pair, Closing, nowhere, at, closed_by, closing_at, with_pair, paired_from, pairs_of, stacked_by, stack_pairs, OfAll, numbered, standing, PartnersAreNumbered, PairsAreStacked, Closed, NoTwoHaveOne}

-- ---- numbers

-- what closes stands among the statements
abbrev AtLeast : ℕ → Closing → Type 0
AtLeast i nowhere = Unit {0}
AtLeast i (at n) = i ≤ n

at_least : (i : ℕ) (c : Closing) → AtLeast (suc i) c → AtLeast i c
at_least i nowhere h = tt
at_least i (at n) h = omega arith

closing_after : (test : Statement → Bracket) (k i : ℕ) (xs : List Stand) → AtLeast i (closing_at test k i xs)
unfolding closing_at
closing_after test k i [] = tt
closing_after test k i (x ∷ xs) =
    by (λ m. at_least i (closing_at test m (suc i) xs) (closing_after test m (suc i) xs)) (test (head_of x.part)) k
  where
    by : ((m : ℕ) → AtLeast i (closing_at test m (suc i) xs)) → (b : Bracket) (n : ℕ)
        → AtLeast i (closed_by b n i (λ m. closing_at test m (suc i) xs))
    by on opens n = on (suc n)
    by on closes zero = omega arith
    by on closes (suc n) = on n
    by on neither n = on n

-- a statement of those after the first
numbered_later : (i : ℕ) (x : Stand) (xs : List Stand) (c : Closing) → AtLeast (suc i) c → standing (suc i) xs c ≡ standing i (x ∷ xs) c
unfolding numbered
numbered_later i x xs nowhere h = refl
numbered_later i x xs (at n) h = rw (ne_eqb i n (λ e. absurd (omega arith)))

partner_numbered : (test : Statement → Bracket) (k i : ℕ) (xs : List Stand) → partner test k xs ≡ standing i xs (closing_at test k i xs)
unfolding partner closing_at numbered
partner_numbered test k i [] = refl
partner_numbered test k i (x ∷ xs) =
    by
    (λ m. partner_numbered test m (suc i) xs
    ∙ numbered_later i x xs (closing_at test m (suc i) xs) (closing_after test m (suc i) xs))
    (test (head_of x.part)) k
  where
    by : ((m : ℕ) → partner test m xs ≡ standing i (x ∷ xs) (closing_at test m (suc i) xs)) → (b : Bracket) (n : ℕ)
        → paired b n x (λ m. partner test m xs) ≡ standing i (x ∷ xs) (closed_by b n i (λ m. closing_at test m (suc i) xs))
    by on opens n = on (suc n)
    by on closes zero = rw (eq-eqb i i refl)
    by on closes (suc n) = on n
    by on neither n = on n

pub partners_are_numbered : PartnersAreNumbered
partners_are_numbered test i xs = partner_numbered test 0 i xs

-- ---- the same pairs

-- those that are open, each with what closes it; k are open above the first of them
unfoldable open_pairs : (Statement → Bracket) → ℕ → ℕ → List ℕ → List Stand → List Pair
open_pairs test k i [] xs = []
open_pairs test k i (o ∷ os) xs = with_pair o (closing_at test k i xs) (open_pairs test (suc k) i os xs)

none_open : (test : Statement → Bracket) (k i : ℕ) (os : List ℕ) → open_pairs test k i os [] ≡ []
unfolding open_pairs closing_at
none_open test k i [] = refl
none_open test k i (o ∷ os) = none_open test (suc k) i os

-- one statement further, one more or one fewer is open above them, or as many
module _ (test : Statement → Bracket) (i : ℕ) (x : Stand) (xs : List Stand) where
  open_on : (j l : ℕ → ℕ) → ((m : ℕ) → j (suc m) ≡ suc (j m)) → ((m : ℕ) → l (suc m) ≡ suc (l m))
      → ((m : ℕ) → closing_at test (j m) i (x ∷ xs) ≡ closing_at test (l m) (suc i) xs)
      → (k : ℕ) (os : List ℕ) → open_pairs test (j k) i os (x ∷ xs) ≡ open_pairs test (l k) (suc i) os xs
  unfolding open_pairs
  open_on j l js ls h k [] = refl
  open_on j l js ls h k (o ∷ os) =
      ap₂ (with_pair o) (h k)
      (ap (λ m. open_pairs test m i os (x ∷ xs)) (sym (js k)) ∙ open_on j l js ls h (suc k) os ∙ ap (λ m. open_pairs test m (suc i) os xs) (ls k))

  abbrev Is : Bracket → Type 0
  Is b = test (head_of x.part) ≡ b

  past_opens : Is opens → (os : List ℕ) → open_pairs test 0 i os (x ∷ xs) ≡ open_pairs test 1 (suc i) os xs
  unfolding closing_at
  past_opens e os = open_on (λ m. m) (λ m. suc m) (λ m. refl) (λ m. refl) (λ m. rw e) 0 os

  past_neither : Is neither → (os : List ℕ) → open_pairs test 0 i os (x ∷ xs) ≡ open_pairs test 0 (suc i) os xs
  unfolding closing_at
  past_neither e os = open_on (λ m. m) (λ m. m) (λ m. refl) (λ m. refl) (λ m. rw e) 0 os

  past_closes : Is closes → (os : List ℕ) → open_pairs test 1 i os (x ∷ xs) ≡ open_pairs test 0 (suc i) os xs
  unfolding closing_at
  past_closes e os = open_on (λ m. suc m) (λ m. m) (λ m. refl) (λ m. refl) (λ m. rw e) 0 os

  closes_here : Is closes → closing_at test 0 i (x ∷ xs) ≡ at i
  unfolding closing_at
  closes_here e = rw e

module _ (P : Pair → Type 0) where
  split_pair : (o : ℕ) (c : Closing) (ps : List Pair) → OfAll P (with_pair o c ps) → OfAll P (with_pair o c []) × OfAll P ps
  split_pair o nowhere ps h = (tt, h)
  split_pair o (at n) ps h = ((h.0, tt), h.1)

  join_pair : (o : ℕ) (c : Closing) (ps : List Pair) → OfAll P (with_pair o c []) → OfAll P ps → OfAll P (with_pair o c ps)
  join_pair o nowhere ps h k = k
  join_pair o (at n) ps h k = (h.0, k)

  module _ (test : Statement → Bracket) where
    -- the pairs by a stack: of those that are open, and of those that are opened from here on
    abbrev Stacked : ℕ → List ℕ → List Stand → Type 0
    Stacked i os xs = OfAll P (stack_pairs test i os xs)

    abbrev Opened : ℕ → List ℕ → List Stand → Type 0
    Opened i os xs = OfAll P (open_pairs test 0 i os xs) × OfAll P (pairs_of test i xs)

    module _ (i : ℕ) (x : Stand) (xs : List Stand) where
      abbrev Stacks : Bracket → List ℕ → Type 0
      Stacks b os = OfAll P (stacked_by b i os (λ rest. stack_pairs test (suc i) rest xs))

      abbrev Opens : Bracket → List ℕ → Type 0
      Opens b os = OfAll P (open_pairs test 0 i os (x ∷ xs)) × OfAll P (paired_from b i (closing_at test 0 (suc i) xs) (pairs_of test (suc i) xs))

      there_by : ((rest : List ℕ) → Stacked (suc i) rest xs → Opened (suc i) rest xs) → (b : Bracket) → Is test i x xs b → (os : List ℕ)
          → Stacks b os → Opens b os
      unfolding open_pairs
      there_by on opens e os h =
          let k = on (i ∷ os) h in
          let c = closing_at test 0 (suc i) xs in
          let s = split_pair i c (open_pairs test 1 (suc i) os xs) k.0 in
          (rw (past_opens test i x xs e os) s.1, join_pair i c (pairs_of test (suc i) xs) s.0 k.1)
      there_by on closes e [] h = (tt, (on [] h).1)
      there_by on closes e (o ∷ os) h =
          let k = on os h.1 in (rw (closes_here test i x xs e, past_closes test i x xs e os) (h.0, k.0), k.1)
      there_by on neither e os h = let k = on os h in (rw (past_neither test i x xs e os) k.0, k.1)

      back_by : ((rest : List ℕ) → Opened (suc i) rest xs → Stacked (suc i) rest xs) → (b : Bracket) → Is test i x xs b → (os : List ℕ)
          → Opens b os → Stacks b os
      unfolding open_pairs
      back_by on opens e os h =
          let c = closing_at test 0 (suc i) xs in
          let s = split_pair i c (pairs_of test (suc i) xs) h.1 in
          let o = rw (past_opens test i x xs e os) at h.0 in
          on (i ∷ os) (join_pair i c (open_pairs test 1 (suc i) os xs) s.0 o, s.1)
      back_by on closes e [] h = on [] (tt, h.1)
      back_by on closes e (o ∷ os) h =
          let k = rw (closes_here test i x xs e, past_closes test i x xs e os) at h.0 in (k.0, on os (k.1, h.1))
      back_by on neither e os h = on os (rw (past_neither test i x xs e os) at h.0, h.1)

    stack_there : (i : ℕ) (os : List ℕ) (xs : List Stand) → Stacked i os xs → Opened i os xs
    unfolding stack_pairs pairs_of
    stack_there i os [] h = (rw (none_open test 0 i os) tt, tt)
    stack_there i os (x ∷ xs) h =
        there_by i x xs (λ rest k. stack_there (suc i) rest xs k) (test (head_of x.part)) refl os h

    stack_back : (i : ℕ) (os : List ℕ) (xs : List Stand) → Opened i os xs → Stacked i os xs
    unfolding stack_pairs pairs_of
    stack_back i os [] h = tt
    stack_back i os (x ∷ xs) h =
        back_by i x xs (λ rest k. stack_back (suc i) rest xs k) (test (head_of x.part)) refl os h

pub pairs_are_stacked : PairsAreStacked
unfolding open_pairs
pairs_are_stacked test i xs =
    record { there = λ P h. stack_back P test i [] xs (tt, h); back = λ P h. (stack_there P test i [] xs h).1 }

-- ---- each closes once

closed_lower : (low : ℕ) (ps : List Pair) → Closed (suc low) ps → Closed low ps
closed_lower low [] h = tt
closed_lower low (p ∷ ps) h = (omega (arith, h.0), h.1)

stack_closed : (test : Statement → Bracket) (i : ℕ) (os : List ℕ) (xs : List Stand) → Closed i (stack_pairs test i os xs)
unfolding stack_pairs
stack_closed test i os [] = tt
stack_closed test i os (x ∷ xs) = by (λ r. stack_closed test (suc i) r xs) (test (head_of x.part)) os
  where
    by : ((r : List ℕ) → Closed (suc i) (stack_pairs test (suc i) r xs)) → (b : Bracket) (r : List ℕ)
        → Closed i (stacked_by b i r (λ s. stack_pairs test (suc i) s xs))
    by on opens r = closed_lower i (stack_pairs test (suc i) (i ∷ r) xs) (on (i ∷ r))
    by on closes [] = closed_lower i (stack_pairs test (suc i) [] xs) (on [])
    by on closes (o ∷ r) = (omega arith, on r)
    by on neither r = closed_lower i (stack_pairs test (suc i) r xs) (on r)

pub no_two_have_one : NoTwoHaveOne
no_two_have_one test i xs = stack_closed test i [] xs
