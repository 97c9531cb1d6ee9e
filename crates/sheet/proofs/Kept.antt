-- A line without a byte 13 at its end, as the slice's `strip_suffix` gives it.
use Rattle.std.proofs.Common.{◌≡◌, ◌≢◌, ℕ, List, [], ◌∷◌, ◌++◌, Option, Some, None, Bor, refl, sym, ap, ◌∙◌}
use Rattle.std.specs.Option.{MatchOption, unwrap_or}
use borrow.Author.Tests.{eqb-true}
use lib.Dec.{eqb}
use Rattle.words.proofs.Choices.{by_test}
use Rattle.sheet.specs.bridge.Taking.{kept}

kept_end : (front : List ℕ) → kept (front ++ (13 ∷ [])) ≡ front
unfolding kept
kept_end [] = refl
kept_end (b ∷ []) = refl
kept_end (b ∷ c ∷ s) = ap (λ l. b ∷ l) (kept_end (c ∷ s))

kept_whole : (s : List ℕ) → ((front : List ℕ) → s ≢ front ++ (13 ∷ [])) → kept s ≡ s
unfolding kept
kept_whole [] h = refl
kept_whole (b ∷ []) h = by_test (eqb b 13) (λ t. absurd (h [] (ap (λ x. x ∷ []) (eqb-true b 13 t)))) (λ t. rw t)
kept_whole (b ∷ c ∷ s) h = ap (λ l. b ∷ l) (kept_whole (c ∷ s) (λ f e. h (b ∷ f) (ap (λ l. b ∷ l) e)))

pub kept_stripped : (line : Bor (List ℕ)) (r : Option (Bor (List ℕ)))
    → MatchOption r ((front : List ℕ) → line.now ≢ front ++ (13 ∷ [])) (λ x. line.now ≡ x.now ++ (13 ∷ []))
    → (unwrap_or r line).now ≡ kept line.now
kept_stripped line None h = sym (kept_whole line.now h)
kept_stripped line (Some x) h = sym (ap kept h ∙ kept_end x.now)
