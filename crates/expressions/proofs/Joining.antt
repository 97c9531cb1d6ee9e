-- What operators make of types: comparisons one thing, all others but `+` another.
use mathlib.Core.Path.{◌≡◌, refl}
use mathlib.Core.List.{List, [], ◌∷◌}
use Prim.Native.Nat.{ℕ}
use denote.Enum.Declared.{tag_of}
use types.Run.{OneOf, miss}
use Rattle.whole.specs.declared.arithmetic.Operator.{Operator}
use Rattle.whole.specs.declared.arithmetic.Operator.TheVariants.{Multiply, Divide, Modulo, Add, Subtract, Equal, Unequal, Less, Greater, AtMost, AtLeast, And, Or, Xor, Eqv, Imp}
use Rattle.expressions.specs.Types.{common_sort, compared, whole_only, joined_sort}
use Rattle.expressions.specs.declared.sorts.Sort.{Sort}

abbrev operator_tag : Operator → ℕ
operator_tag op = tag_of Rattle.whole.specs.contracts.arithmetic.Operator.the_type op

abbrev comparisons : List ℕ
comparisons = 5 ∷ 6 ∷ 7 ∷ 8 ∷ 9 ∷ 10 ∷ []

pub comparison_joins : (op : Operator) (a b : Sort) → OneOf comparisons (operator_tag op) → joined_sort op a b ≡ compared (common_sort a b)
comparison_joins Multiply a b h = absurd (miss comparisons 0 tt h)
comparison_joins Divide a b h = absurd (miss comparisons 1 tt h)
comparison_joins Modulo a b h = absurd (miss comparisons 2 tt h)
comparison_joins Add a b h = absurd (miss comparisons 3 tt h)
comparison_joins Subtract a b h = absurd (miss comparisons 4 tt h)
comparison_joins Equal a b h = refl
comparison_joins Unequal a b h = refl
comparison_joins Less a b h = refl
comparison_joins Greater a b h = refl
comparison_joins AtMost a b h = refl
comparison_joins AtLeast a b h = refl
comparison_joins And a b h = absurd (miss comparisons 11 tt h)
comparison_joins Or a b h = absurd (miss comparisons 12 tt h)
comparison_joins Xor a b h = absurd (miss comparisons 13 tt h)
comparison_joins Eqv a b h = absurd (miss comparisons 14 tt h)
comparison_joins Imp a b h = absurd (miss comparisons 15 tt h)

abbrev others : List ℕ
others = 0 ∷ 1 ∷ 2 ∷ 4 ∷ 11 ∷ 12 ∷ 13 ∷ 14 ∷ 15 ∷ []

pub other_joins : (op : Operator) (a b : Sort) → OneOf others (operator_tag op) → joined_sort op a b ≡ whole_only (common_sort a b)
other_joins Multiply a b h = refl
other_joins Divide a b h = refl
other_joins Modulo a b h = refl
other_joins Add a b h = absurd (miss others 3 tt h)
other_joins Subtract a b h = refl
other_joins Equal a b h = absurd (miss others 5 tt h)
other_joins Unequal a b h = absurd (miss others 6 tt h)
other_joins Less a b h = absurd (miss others 7 tt h)
other_joins Greater a b h = absurd (miss others 8 tt h)
other_joins AtMost a b h = absurd (miss others 9 tt h)
other_joins AtLeast a b h = absurd (miss others 10 tt h)
other_joins And a b h = refl
other_joins Or a b h = refl
other_joins Xor a b h = refl
other_joins Eqv a b h = refl
other_joins Imp a b h = refl
