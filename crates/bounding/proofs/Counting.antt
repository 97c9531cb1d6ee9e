-- The count so far, and what the statements ahead make of it.
use Rattle.std.specs.Prelude.{None, Ok, Option, Some, Result}
use mathlib.Core.Path.{◌≡◌, refl, sym, ◌∙◌, ap}
use mathlib.Core.Bool.{Bool, true, false, cond, not}
use mathlib.Core.List.{List, [], ◌∷◌}
use Prim.Native.Nat.{ℕ, suc, ◌+◌}
use native.Mathlib.Omega.{arith}
use lib.ListN.{length}
use Rattle.loader.specs.Lines.{lines_of}
use Rattle.loader.specs.Loading.{load_of}
use Rattle.loader.specs.declared.refusals.RefusedAt.{RefusedAt}
use Rattle.machine.specs.Order.{Stand, stands}
use Rattle.order.specs.bridge.Walking.{Reached, Ahead, Spotted, Walks, lead_at}
use Rattle.order.specs.declared.texts.Spot.{Spot}
use Rattle.statements.specs.Parts.{head_of}
use Rattle.statements.specs.declared.leading.Lead.{Lead}
use Rattle.statements.proofs.Findings.{passed, failed}
use Rattle.order.proofs.Texting.{not_over}
use Rattle.bounding.specs.Bounding.{jumps_on, stand_jumps_on, all_jump_on, is_bounded, bound_of}
use Rattle.bounding.specs.bridge.Leading.{leads_on}
use Rattle.bounding.proofs.Leading.{spot_leads, spot_number}

-- what some statements make of a count
abbrev pub counted_on : ℕ → List Stand → Result (Option ℕ) RefusedAt
counted_on k xs = cond (all_jump_on xs) (Ok (Some (k + length xs))) (Ok None)

-- from where a walk is the text has some statements that make this of the count
pub record Counts (text : List ℕ) (w : Option Spot) (k : ℕ) (goal : Result (Option ℕ) RefusedAt) : Type 0 where
  pub xs : List Stand
  pub walks : Walks text w xs
  pub same : counted_on k xs ≡ goal

-- ---- the first line

pub from_first : (text : List ℕ) → load_of text ≡ Ok tt → Reached text 0
from_first text e = record { loads = e; before = []; all = refl }

pub count_none : (text : List ℕ) → load_of text ≡ Ok tt → counted_on 0 (stands (lines_of text)) ≡ bound_of text
unfolding bound_of
count_none text e =
    let n = length (stands (lines_of text)) in
    let z : 0 + n ≡ n = omega arith in
    rw e (ap (λ m. cond (is_bounded text) (Ok (Some m)) (Ok None)) z)

-- ---- past the last

pub count_over : {text : List ℕ} {k : ℕ} {goal : Result (Option ℕ) RefusedAt} → Counts text None k goal → Ok (Some k) ≡ goal
unfolding all_jump_on
count_over {text} {k} s = let e = ap (counted_on k) s.walks in let z : k + 0 ≡ k = omega arith in ap (λ n. Ok (Some n)) (sym z) ∙ sym e ∙ s.same

-- ---- at a spot

-- one that does not jump on decides, and otherwise it is counted and the others decide
counted_back : (k : ℕ) (x : Stand) (xs : List Stand) → stand_jumps_on x ≡ false → (Ok None) ≡ counted_on k (x ∷ xs)
unfolding all_jump_on
counted_back k x xs e = rw e

counted_more : (k : ℕ) (x : Stand) (xs : List Stand) → stand_jumps_on x ≡ true → counted_on (k + 1) xs ≡ counted_on k (x ∷ xs)
unfolding all_jump_on
counted_more k x xs e =
    let z : k + 1 + length xs ≡ k + suc (length xs) = omega arith in rw e (ap (λ n. cond (all_jump_on xs) (Ok (Some n)) (Ok None)) z)

-- the statement there, and the others
record Meets (text : List ℕ) (spot : Spot) (k : ℕ) (goal : Result (Option ℕ) RefusedAt) : Type 0 where
  x : Stand
  xs : List Stand
  ahead : Ahead text spot (x ∷ xs)
  same : counted_on k (x ∷ xs) ≡ goal

meets_by : {text : List ℕ} {spot : Spot} {k : ℕ} {goal : Result (Option ℕ) RefusedAt} (xs : List Stand) → Ahead text spot xs → counted_on k xs ≡ goal → Meets text spot k goal
meets_by [] a e = absurd (not_over a)
meets_by (x ∷ xs) a e = record { x = x; xs = xs; ahead = a; same = e }

module _ {text : List ℕ} {spot : Spot} {k : ℕ} {goal : Result (Option ℕ) RefusedAt} (s : Counts text (Some spot) k goal) where
  pub count_spotted : Spotted text spot
  count_spotted = record { xs = s.xs; ahead = s.walks }

  meets : Meets text spot k goal
  meets = meets_by s.xs s.walks s.same

  module _ {lead : Option Lead} {b : Bool} (led : lead ≡ lead_at text spot) (is : b ≡ leads_on spot.line.number.0 lead) where
    -- what the code finds of it
    stand_jumps : b ≡ stand_jumps_on meets.x
    stand_jumps =
        is
        ∙ ap (leads_on spot.line.number.0) led
        ∙ spot_leads spot.line.number.0 meets.ahead
        ∙ ap (λ n. jumps_on n (head_of meets.x.part)) (spot_number meets.ahead)

    pub count_back : not b ≡ true → (Ok None) ≡ goal
    count_back h = counted_back k meets.x meets.xs (failed stand_jumps h) ∙ meets.same

    pub count_more : not b ≡ false → {w : Option Spot} → ((x : Stand) (xs : List Stand) → Ahead text spot (x ∷ xs) → Walks text w xs)
        → Counts text w (k + 1) goal
    count_more h on = record {
      xs = meets.xs;
      walks = on meets.x meets.xs meets.ahead;
      same = counted_more k meets.x meets.xs (passed stand_jumps h) ∙ meets.same;
    }
