-- The fields of a line, as the slice's `split` gives them one after the other.
use Rattle.std.proofs.Common.{◌≡◌, ℕ, List, [], ◌∷◌, ◌++◌, Bool, true, false, cond, None, length, get_or, ap, ◌∙◌, arith}
use Rattle.std.proofs.lemmas.Grind.{common_steps}
use Rattle.std.proofs.lemmas.List.Splits.{slice_split_none, slice_split_at}
use Rattle.std.specs.Bool.{MatchBool}
use Rattle.std.specs.List.{All, IsFirstMatchOrLen}
use mathlib.Core.Path.{subst}
use Rattle.records.specs.Records.{is_tab, fields_of, recorded, record_of}

-- a field is cut off, and a rest is left unless it was the last
pub record Cut (s x rest : List ℕ) (done : Bool) : Type 0 where
  pub first : fields_of s ≡ x ∷ cond done [] (fields_of rest)

-- the first part that is cut off, and what is left of the line behind its tab
first_part : (line x rest : List ℕ) (done : Bool) → MatchBool done (line ≡ x) ((b : ℕ) × (line ≡ x ++ (b ∷ rest)))
    → IsFirstMatchOrLen is_tab line (length x) → fields_of line ≡ x ∷ cond done [] (fields_of rest)
first_part line x rest true e h =
    ap fields_of e ∙ slice_split_none is_tab x (λ k d l. subst (λ ys. is_tab (get_or ys k d) ≡ false) e (h.0 k d (omega arith) l))
first_part line x rest false e h =
    let front : All (λ b. is_tab b ≡ false) x = λ k d l. let a = h.0 k d (omega arith) l in let b = e.1 in grind (arith, common_steps) in
    let hit : is_tab e.0 ≡ true = let b = e.1 in let a = h.1 (grind (arith, common_steps)) e.0 in grind (arith, common_steps) in
    ap fields_of e.1 ∙ slice_split_at is_tab x e.0 rest front hit

pub cut_off : (line x rest : List ℕ) (done : Bool) → MatchBool done (line ≡ x) ((b : ℕ) × (line ≡ x ++ (b ∷ rest)))
    → IsFirstMatchOrLen is_tab line (length x) → Cut line x rest done
cut_off line x rest done e h = record { first = first_part line x rest done e h }

-- ---- a line, by the fields that are cut off it one after the other

module _ (line s : List ℕ) (is : s ≡ line) (w a : List ℕ) (wa : Bool) (word : Cut s w a wa) where
  pub one_field : wa ≡ true → record_of line ≡ None
  one_field t = rw (← is, word.first, t)

  module _ (more : wa ≡ false) (n b : List ℕ) (nb : Bool) (number : Cut a n b nb) where
    pub two_fields : nb ≡ true → record_of line ≡ None
    two_fields t = rw (← is, word.first, more, number.first, t)

    module _ (on : nb ≡ false) (p d : List ℕ) (pd : Bool) (place : Cut b p d pd) where
      pub three_fields : pd ≡ true → record_of line ≡ None
      three_fields t = rw (← is, word.first, more, number.first, on, place.first, t)

      module _ (still : pd ≡ false) (t e : List ℕ) (te : Bool) (steps : Cut d t e te) where
        pub four_fields : te ≡ true → record_of line ≡ recorded w n p t
        four_fields u = rw (← is, word.first, more, number.first, on, place.first, still, steps.first, u)

        pub five_fields : te ≡ false → (x f : List ℕ) (xf : Bool) → Cut e x f xf → record_of line ≡ None
        five_fields u x f xf fifth = rw (← is, word.first, more, number.first, on, place.first, still, steps.first, u, fifth.first)
