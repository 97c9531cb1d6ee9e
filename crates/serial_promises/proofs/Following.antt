-- What calls leave, one after the other, is what the definition takes of their parts.
use mathlib.Core.Path.{◌≡◌, sym, ap, ◌∙◌}
use mathlib.Core.List.{List, [], ◌∷◌, map}
use Prim.Native.Nat.{ℕ}
use Rattle.serial.specs.Receiving.{Held, taken}
use Rattle.serial.specs.Received.{all_taken}
use Rattle.serial_promises.specs.Cuttings.{Follow}

-- what is kept between two calls means what is held, and each call takes its part to that
module _ {State Calls : Type 0} (before after : Calls → State) (part : Calls → List ℕ) (means : State → Held)
    (takes : (c : Calls) → means (after c) ≡ taken (means (before c)) (part c)) where
  pub follow_taken : (cs : List Calls) (h e : State) → Follow before after h cs e → means e ≡ all_taken (means h) (map part cs)
  unfolding Follow all_taken
  follow_taken [] h e f = ap means (sym f)
  follow_taken (c ∷ cs) h e f =
      follow_taken cs (after c) e f.1
      ∙ ap (λ g. all_taken g (map part cs)) (takes c ∙ ap (λ s. taken (means s) (part c)) f.0)
