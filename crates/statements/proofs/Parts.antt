-- Parts without their bound: no line goes as deep as `enough` lets it.
use mathlib.Core.Path.{◌≡◌, refl, ◌∙◌, ap}
use mathlib.Core.Bool.{Bool, true, false}
use mathlib.Core.List.{List}
use Prim.Native.Nat.{ℕ, zero, suc, ◌+◌, ◌≤◌, ◌<◌}
use native.Mathlib.Omega.{arith}
use Rattle.words.specs.Places.{place}
use Rattle.words.specs.declared.symbols.Scanned.{Scanned}
use Rattle.words.specs.declared.symbols.Sign.TheVariants.{Colon}
use Rattle.words.specs.declared.symbols.Word.TheVariants.{Else}
use Rattle.words.proofs.Choices.{by_test}
use Rattle.scanner.specs.Tokens.{reads, token_at}
use Rattle.grammar.specs.Tests.{is_symbol, is_keyword, ends_statement}
use Rattle.grammar.specs.Trees.{Formula, Part}
use Rattle.grammar.specs.Formulas.{enough}
use Rattle.statements.specs.Statements.{Begun, bad, done, choice, begun_at, PartReading, bad_part, good_part, mapped_part, following, branched, on_begun, part_at, part_of}
use Rattle.skimming.specs.bridge.Remaining.{weight}
use Rattle.skimming.proofs.Weights.{symbol_reads, keyword_reads, after_lighter, weight-enough}
use Rattle.statements.proofs.Beginning.{Within, begun_within}

-- ---- weights

-- of the token at a place
abbrev pub weight_at : List ℕ → ℕ → ℕ
weight_at s p = weight s (token_at s (place p))

pub next_lighter : (s : List ℕ) (t : Scanned) → reads t.token ≡ true → weight_at s t.next.0 + 4 ≤ weight s t
next_lighter s t r = after_lighter s t r

-- of the token that ends a part
abbrev weight_left : List ℕ → PartReading → ℕ
weight_left s bad_part = 0
weight_left s (good_part part t) = weight s t

mapped_left : (s : List ℕ) (make : Part → Part) (r : PartReading) → weight_left s (mapped_part make r) ≡ weight_left s r
mapped_left s make bad_part = refl
mapped_left s make (good_part part t) = refl

-- ---- a part by its first statement

-- where `go` reads the parts after it
abbrev pub part_by : ℕ → (Bool → ℕ → PartReading) → Begun → PartReading
part_by p go b =
    on_begun b
    (λ x t. following p x t (λ q. go false q))
    (λ c t. branched p c (go true t.next.0) (λ q. go true q))

module _ (s : List ℕ) (p w : ℕ) (go : Bool → ℕ → PartReading) (light : (f : Bool) (q : ℕ) → weight_left s (go f q) ≤ weight_at s q) where
  branch_light : (c : Formula) (r : PartReading) → weight_left s r ≤ w → weight_left s (branched p c r (λ q. go true q)) ≤ w
  branch_light c bad_part h = omega arith
  branch_light c (good_part part t) h =
      by_test (is_keyword Else t.token)
      (λ e. rw (e, mapped_left) (omega (arith, light true t.next.0, next_lighter s t (keyword_reads Else t.token e))))
      (λ e. rw e h)

  light_by : (b : Begun) → Within s w b → weight_left s (part_by p go b) ≤ w
  light_by bad h = omega arith
  light_by (done x t) h =
      by_test (is_symbol Colon t.token)
      (λ e. rw (e, mapped_left) (omega (arith, light false t.next.0, next_lighter s t (symbol_reads Colon t.token e))))
      (λ e. rw e (by_test (ends_statement t.token) (λ f. rw f h) (λ f. rw f (omega arith))))
  light_by (choice c t) h =
      branch_light c (go true t.next.0) (omega (arith, h.1, light true t.next.0, next_lighter s t h.0))

  -- only lighter parts count
  module _ (go' : Bool → ℕ → PartReading) (same : (f : Bool) (q : ℕ) → weight_at s q < w → go f q ≡ go' f q) where
    branch_same : (c : Formula) (r : PartReading) → weight_left s r ≤ w → branched p c r (λ q. go true q) ≡ branched p c r (λ q. go' true q)
    branch_same c bad_part h = refl
    branch_same c (good_part part t) h =
        by_test (is_keyword Else t.token)
        (λ e. rw (e, same true t.next.0 (omega (arith, next_lighter s t (keyword_reads Else t.token e)))))
        (λ e. rw e)

    same_by : (b : Begun) → Within s w b → part_by p go b ≡ part_by p go' b
    same_by bad h = refl
    same_by (done x t) h =
        by_test (is_symbol Colon t.token)
        (λ e. rw (e, same false t.next.0 (omega (arith, next_lighter s t (symbol_reads Colon t.token e)))))
        (λ e. rw e)
    same_by (choice c t) h =
        let l = next_lighter s t h.0 in
        branch_same c (go true t.next.0) (omega (arith, h.1, light true t.next.0))
        ∙ ap (λ r. branched p c r (λ q. go' true q)) (same true t.next.0 (omega (arith, h.1)))

-- ---- any bound above the weight of its first token reads a part

parts_light : (n : ℕ) (s : List ℕ) (first : Bool) (p : ℕ) → weight_left s (part_at n s first p) ≤ weight_at s p
unfolding part_at
parts_light zero s first p = omega arith
parts_light (suc n) s first p =
    light_by s p (weight_at s p) (part_at n s) (λ f q. parts_light n s f q) (begun_at s first p) (begun_within s first p)

parts_enough : (n m : ℕ) (s : List ℕ) (first : Bool) (p : ℕ) → weight_at s p < n → weight_at s p < m → part_at n s first p ≡ part_at m s first p
unfolding part_at
parts_enough zero m s first p h k = absurd (omega arith)
parts_enough (suc n) zero s first p h k = absurd (omega arith)
parts_enough (suc n) (suc m) s first p h k =
    same_by s p (weight_at s p) (part_at n s) (λ f q. parts_light n s f q) (part_at m s)
    (λ f q l. parts_enough n m s f q (omega arith) (omega arith))
    (begun_at s first p) (begun_within s first p)

-- its first statement, and the parts after it
pub unrolled : (s : List ℕ) (first : Bool) (p : ℕ) → part_of s first p ≡ part_by p (part_of s) (begun_at s first p)
unfolding part_at part_of
unrolled s first p =
    let w = weight-enough s (token_at s (place p)) in
    parts_enough (enough s) (suc (enough s)) s first p (omega arith) (omega arith)
