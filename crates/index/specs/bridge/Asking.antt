-- Bridge: the callers that are put one after the other. The contracts of functions inside this crate cite it.
use Rattle.std.specs.Prelude.{Bool, List, [], ℕ, take}
use Rattle.index.specs.Callers.{in_front_if}

-- a line, if it is a caller and there is room for one
abbrev pub fitting : ℕ → Bool → ℕ → List ℕ
fitting room calls line = take room (in_front_if calls line [])
