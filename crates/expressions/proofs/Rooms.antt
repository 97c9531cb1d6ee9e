-- Types where there is room for so many pairs of parentheses: what nests deeper counts as wrong, and what is wrong stays wrong.
use mathlib.Core.Path.{◌≡◌, refl}
use mathlib.Core.Bool.{false}
use mathlib.Core.List.{List, [], ◌∷◌, ◌++◌}
use mathlib.Core.Logic.{◌⊎◌, inl, inr}
use Prim.Native.Nat.{ℕ, suc, ◌+◌, ◌≤◌, ◌<◌, max}
use native.Mathlib.Omega.{arith}
use borrow.Author.Tests.{ltb-true, ltb-false, lt-ltb, le-ltb}
use lib.Dec.{ltb}
use Rattle.whole.specs.declared.arithmetic.Operator.{Operator}
use Rattle.whole.specs.declared.arithmetic.Operator.TheVariants.{Multiply, Divide, Modulo, Add, Subtract, Equal, Unequal, Less, Greater, AtMost, AtLeast, And, Or, Xor, Eqv, Imp}
use Rattle.words.specs.declared.symbols.Function.{Function}
use Rattle.words.proofs.Choices.{by_test}
use Rattle.grammar.specs.Trees.{Formula, inside, minus, complement, two_sided, call, Arguments, none, also}
use Rattle.grammar.specs.Functions.{wants}
use Rattle.grammar.specs.Formulas.{count_of}
use Rattle.grammar.specs.declared.wanting.Want.{Want}
use Rattle.expressions.specs.Types.{common_sort, whole_only, joined_sort, meets, all_meet, call_sort, sort_of, sorts_of, depth_of, deepest_of}
use Rattle.expressions.specs.bridge.Answers.{sort_in, sorts_in}
use Rattle.expressions.specs.declared.sorts.Sort.{Sort}
use Rattle.expressions.specs.declared.sorts.Sort.TheVariants.{Whole, Text, Wrong}
use Rattle.expressions.proofs.Sorting.{wrong_meets}

-- one pair of parentheses takes one of the room
test_suc : (room d : ℕ) → ltb (suc d) (room + 1) ≡ ltb d room
test_suc room d =
    by_test (ltb d room)
    (λ e. rw e (lt-ltb (suc d) (room + 1) (omega (arith, ltb-true d room e))))
    (λ e. rw e (le-ltb (suc d) (room + 1) (omega (arith, ltb-false d room e))))

pub sort_inside : (room : ℕ) (f : Formula) → sort_in (room + 1) (inside f) ≡ sort_in room f
unfolding sort_of depth_of
sort_inside room f = rw (test_suc room (depth_of f))

pub sort_minus : (room : ℕ) (f : Formula) → whole_only (sort_in room f) ≡ sort_in room (minus f)
unfolding sort_of depth_of
sort_minus room f = by_test (ltb (depth_of f) room) (λ e. rw e) (λ e. rw e)

pub sort_complement : (room : ℕ) (f : Formula) → whole_only (sort_in room f) ≡ sort_in room (complement f)
unfolding sort_of depth_of
sort_complement room f = by_test (ltb (depth_of f) room) (λ e. rw e) (λ e. rw e)

-- ---- two sides

common_sort_wrong : (a : Sort) → common_sort a Wrong ≡ Wrong
common_sort_wrong Whole = refl
common_sort_wrong Text = refl
common_sort_wrong Wrong = refl

joined_wrong : (op : Operator) (a b : Sort) → common_sort a b ≡ Wrong → joined_sort op a b ≡ Wrong
joined_wrong Multiply a b e = rw e
joined_wrong Divide a b e = rw e
joined_wrong Modulo a b e = rw e
joined_wrong Add a b e = rw e
joined_wrong Subtract a b e = rw e
joined_wrong Equal a b e = rw e
joined_wrong Unequal a b e = rw e
joined_wrong Less a b e = rw e
joined_wrong Greater a b e = rw e
joined_wrong AtMost a b e = rw e
joined_wrong AtLeast a b e = rw e
joined_wrong And a b e = rw e
joined_wrong Or a b e = rw e
joined_wrong Xor a b e = rw e
joined_wrong Eqv a b e = rw e
joined_wrong Imp a b e = rw e

pub sort_joined : (room : ℕ) (op : Operator) (f g : Formula) → joined_sort op (sort_in room f) (sort_in room g) ≡ sort_in room (two_sided op f g)
unfolding sort_of depth_of
sort_joined room op f g =
    let a = depth_of f in
    let b = depth_of g in
    by_test (ltb a room)
    (λ e. by_test (ltb b room)
    (λ h. rw (e, h, lt-ltb (max a b) room (omega (arith, ltb-true a room e, ltb-true b room h))))
    (λ h. rw (e, h, le-ltb (max a b) room (omega (arith, ltb-false b room h)))
    (joined_wrong op (sort_of f) Wrong (common_sort_wrong (sort_of f)))))
    (λ e. rw (e, le-ltb (max a b) room (omega (arith, ltb-false a room e))) (joined_wrong op Wrong (sort_in room g) refl))

-- ---- arguments

abbrev HasWrong : List Sort → Type 0
HasWrong [] = ⊥
HasWrong (k ∷ l) = (k ≡ Wrong) ⊎ HasWrong l

wrong_last : (l : List Sort) (k : Sort) → k ≡ Wrong → HasWrong (l ++ (k ∷ []))
wrong_last [] k e = inl e
wrong_last (a ∷ l) k e = inr (wrong_last l k e)

wrong_more : (l m : List Sort) → HasWrong l → HasWrong (l ++ m)
wrong_more [] m h = absurd h
wrong_more (a ∷ l) m (inl e) = inl e
wrong_more (a ∷ l) m (inr h) = inr (wrong_more l m h)

-- no function wants what is wrong
wrong_misses : (ws : List Want) (l : List Sort) → HasWrong l → all_meet ws l ≡ false
unfolding all_meet
wrong_misses [] [] h = absurd h
wrong_misses [] (k ∷ l) h = refl
wrong_misses (w ∷ ws) [] h = absurd h
wrong_misses (w ∷ ws) (k ∷ l) (inl e) = rw (e, wrong_meets w)
wrong_misses (w ∷ ws) (k ∷ l) (inr h) = by_test (meets w k) (λ e. rw e (wrong_misses ws l h)) (λ e. rw e)

-- where each has room
shallow : (room : ℕ) (a : Arguments) → deepest_of a < room → sorts_in room a ≡ sorts_of a
unfolding sorts_in sort_of depth_of
shallow room none h = refl
shallow room (also a f) h = rw (shallow room a (omega arith), lt-ltb (depth_of f) room (omega arith))

-- where one has none
deep : (room : ℕ) (a : Arguments) → 0 < room → room ≤ deepest_of a → HasWrong (sorts_in room a)
unfolding sorts_in depth_of
deep room none h k = absurd (omega arith)
deep room (also a f) h k =
    by_test (ltb (depth_of f) room)
    (λ e. wrong_more (sorts_in room a) (sort_in room f ∷ []) (deep room a h (omega (arith, ltb-true (depth_of f) room e))))
    (λ e. wrong_last (sorts_in room a) (sort_in room f) (rw e))

deep_also : (room : ℕ) (a : Arguments) (f : Formula) → room ≤ deepest_of (also a f) → HasWrong (sorts_in room (also a f))
unfolding sorts_in
deep_also room a f k =
    by_test (ltb (depth_of f) room)
    (λ e. deep room (also a f) (omega (arith, ltb-true (depth_of f) room e)) k)
    (λ e. wrong_last (sorts_in room a) (sort_in room f) (rw e))

pub sort_call : (room : ℕ) (f : Function) (a : Arguments) → 1 ≤ count_of a → call_sort f (count_of a) (sorts_in room a) ≡ sort_in (room + 1) (call f a)
unfolding sort_of depth_of count_of
sort_call room f none h = absurd (omega arith)
sort_call room f (also a x) h =
    let d = deepest_of (also a x) in
    by_test (ltb d room)
    (λ e. rw (test_suc room d, e, shallow room (also a x) (ltb-true d room e)))
    (λ e. rw (test_suc room d, e, wrong_misses (wants f (count_of (also a x))) (sorts_in room (also a x)) (deep_also room a x (ltb-false d room e))))
