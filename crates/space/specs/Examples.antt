-- Worked examples, computed by the checker.
use Rattle.std.specs.Prelude.{◌≡◌, refl, [], ◌∷◌}
use Rattle.space.specs.Moves.{overlaid, copied, moved, cleared}

copied_in : copied (1 ∷ 2 ∷ 3 ∷ 4 ∷ []) 1 (8 ∷ 9 ∷ []) ≡ 1 ∷ 8 ∷ 9 ∷ 4 ∷ []
unfolding copied overlaid
copied_in = refl

copied_past : copied (1 ∷ 2 ∷ []) 1 (8 ∷ 9 ∷ []) ≡ 1 ∷ 2 ∷ []
unfolding copied overlaid
copied_past = refl

moved_up : moved (1 ∷ 2 ∷ 3 ∷ 4 ∷ []) 0 1 3 ≡ 1 ∷ 1 ∷ 2 ∷ 3 ∷ []
unfolding moved overlaid
moved_up = refl

moved_down : moved (1 ∷ 2 ∷ 3 ∷ 4 ∷ []) 1 0 3 ≡ 2 ∷ 3 ∷ 4 ∷ 4 ∷ []
unfolding moved overlaid
moved_down = refl

moved_past : moved (1 ∷ 2 ∷ 3 ∷ 4 ∷ []) 2 0 3 ≡ 1 ∷ 2 ∷ 3 ∷ 4 ∷ []
unfolding moved overlaid
moved_past = refl

cleared_end : cleared (1 ∷ 2 ∷ 3 ∷ []) 1 ≡ 1 ∷ 0 ∷ 0 ∷ []
unfolding cleared
cleared_end = refl
