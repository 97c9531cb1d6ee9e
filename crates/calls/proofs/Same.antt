-- Two answers that are both said to be one thing are equal.
use mathlib.Core.Path.{◌≡◌, sym, ◌∙◌}

-- what two answers are both said to be
pub same : {A : Type 0} {x y told : A} → x ≡ told → y ≡ told → x ≡ y
same e f = e ∙ sym f

-- what is left of the lent references, one by one
pub pair : {A B : Type 0} {x y : A × B} → x.0 ≡ y.0 → x.1 ≡ y.1 → x ≡ y
pair e f = λ i. (e i, f i)
