-- Tables of spellings, and what a `match` on a number tells of one.
use mathlib.Core.Path.{◌≡◌, refl, ◌∙◌}
use mathlib.Core.Bool.{Bool, true, ◌&&◌}
use mathlib.Core.List.{List, [], ◌∷◌, ◌++◌}
use Prim.Native.Nat.{ℕ}
use Rattle.words.specs.Spellings.{Spelt, same_bytes, meaning}
use Rattle.words.proofs.Choices.{both, by_test}

-- no entry has the key n, in the form that the last arm of a `match` has it: a part for each entry, the last outermost
abbrev pub NoKey : {A : Type 0} → (Spelt A → ℕ) → ℕ → List (Spelt A) → Type 0 → Type 0
NoKey key n [] earlier = earlier
NoKey key n (e ∷ es) earlier = NoKey key n es (earlier × (n ≡ key e → ⊥))

-- where each entry of another key is passed over, a table without the key answers as what follows it
pub passed_over : {A : Type 0} (answer : List (Spelt A) → A) (key : Spelt A → ℕ) (n : ℕ)
    → ((e : Spelt A) (es : List (Spelt A)) → (n ≡ key e → ⊥) → answer (e ∷ es) ≡ answer es)
    → (table more : List (Spelt A)) {earlier : Type 0} → NoKey key n table earlier → (answer (table ++ more) ≡ answer more) × earlier
passed_over answer key n pass [] more r = (refl, r)
passed_over answer key n pass (e ∷ es) more r =
    let later = passed_over answer key n pass es more r in
    (pass e (es ++ more) later.1.1 ∙ later.0, later.1.0)

-- whether everything in a table passes a test
unfoldable pub every : {A : Type 0} → (A → Bool) → List (Spelt A) → Bool
every test [] = true
every test (e ∷ es) = test e.thing && every test es

-- then what it says of any bytes does too
pub meaning_passes : {A : Type 0} (test : A → Bool) (table : List (Spelt A)) (other : A) (w : List ℕ) → every test table ≡ true
    → test other ≡ true → test (meaning table other w) ≡ true
unfolding every meaning
meaning_passes test [] other w all o = o
meaning_passes test (e ∷ es) other w all o =
    let here = both (test e.thing) (every test es) all in
    by_test (same_bytes w e.spelling) (λ s. rw s here.0) (λ s. rw s (meaning_passes test es other w here.1 o))
