-- The statements that a text has from a line on, and the lines that a jump onward can lead to.
use mathlib.Core.Path.{◌≡◌, refl, ◌∙◌, ap}
use mathlib.Core.Bool.{true, false}
use mathlib.Core.List.{List, [], ◌∷◌, ◌++◌, IsSuffix}
use Prim.Native.Nat.{ℕ, suc, ◌+◌, ◌≤◌, ◌<◌}
use native.Mathlib.Omega.{arith}
use borrow.Author.Tests.{ne_eqb}
use lib.ListN.{length, length-append}
use Rattle.whole.specs.Digits.{leading_value}
use Rattle.words.proofs.Choices.{both}
use Rattle.loader.specs.Lines.{Line, number_of, has, from_number, after_number}
use Rattle.loader.proofs.Found.{from_miss, from_suffix}
use Rattle.loader.proofs.Rising.{Sound, Rising, rising_suffix}
use Rattle.grammar.specs.Trees.{Statement, Part}
use Rattle.statements.specs.Parts.{head_of, parts_of, heads}
use Rattle.reader.specs.Lines.{holds, judgement}
use Rattle.machine.specs.Order.{Stand, placed, parts_held, parts_in, stands_in, stands}
use Rattle.order.proofs.Laws.{Every, Throughout}
use Rattle.bounding.specs.Bounding.{jumps_on, stand_jumps_on, all_jump_on}

-- ---- how many statements there are

abbrev pub left_in : List Line → ℕ
left_in ls = length (stands ls)

placed-length : (ls : List Line) (ps : List Part) → length (placed ls ps) ≡ length ps
unfolding placed
placed-length ls [] = refl
placed-length ls (p ∷ ps) = ap suc (placed-length ls ps)

-- a line's own, and those of the lines after it
pub left_here : (l : Line) (ls : List Line) → left_in (l ∷ ls) ≡ length (parts_held (judgement (after_number l))) + left_in ls
unfolding stands
left_here l ls =
    length-append (stands_in (l ∷ ls)) (stands ls) ∙ ap (λ n. n + left_in ls) (placed-length (l ∷ ls) (parts_in (l ∷ ls)))

left_after : (before ls : List Line) → left_in ls ≤ left_in (before ++ ls)
left_after [] ls = omega arith
left_after (l ∷ before) ls = omega (arith, left_after before ls, left_here l (before ++ ls))

-- the last of some lines have no more
pub left_suffix : {ls all : List Line} → IsSuffix ls all → left_in ls ≤ left_in all
left_suffix {ls} s = rw (← s.1) (left_after s.0 ls)

-- ---- all of them jump on

abbrev pub JumpsOn : ℕ → Statement → Type 0
JumpsOn n x = jumps_on n x ≡ true

-- each statement of a part, branches counted
abbrev pub PartOn : ℕ → Part → Type 0
PartOn n p = Throughout (JumpsOn n) p

-- each of those of the lines that read
abbrev pub LinesOn : List Line → Type 0
LinesOn [] = Unit {0}
LinesOn (l ∷ ls) = ((p : Part) → judgement (after_number l) ≡ holds p → PartOn (leading_value l.bytes) p) × LinesOn ls

on_apart : (xs ys : List Stand) → all_jump_on (xs ++ ys) ≡ true → (all_jump_on xs ≡ true) × (all_jump_on ys ≡ true)
unfolding all_jump_on
on_apart [] ys e = (refl, e)
on_apart (x ∷ xs) ys e =
    let b = both (stand_jumps_on x) (all_jump_on (xs ++ ys)) e in
    let h = on_apart xs ys b.1 in
    (rw b.0 h.0, h.1)

placed_on : (l : Line) (ls : List Line) (ps : List Part) → all_jump_on (placed (l ∷ ls) ps) ≡ true → Every (JumpsOn (leading_value l.bytes)) (heads ps)
unfolding all_jump_on placed heads
placed_on l ls [] e = tt
placed_on l ls (p ∷ ps) e =
    let b = both (jumps_on (leading_value l.bytes) (head_of p)) (all_jump_on (placed (l ∷ ls) ps)) e in
    (b.0, placed_on l ls ps b.1)

pub lines_on : (ls : List Line) → all_jump_on (stands ls) ≡ true → LinesOn ls
unfolding stands
lines_on [] e = tt
lines_on (l ∷ ls) e =
    let h = on_apart (stands_in (l ∷ ls)) (stands ls) e in
    (λ p j. placed_on l ls (parts_of p) (rw j at h.0), lines_on ls h.1)

on_after : (before ls : List Line) → LinesOn (before ++ ls) → LinesOn ls
on_after [] ls h = h
on_after (l ∷ before) ls h = on_after before ls h.1

pub on_suffix : {ls all : List Line} → IsSuffix ls all → LinesOn all → LinesOn ls
on_suffix {ls} s h = on_after s.0 ls (rw s.1 h)

-- ---- a jump to a higher line number

-- a line with another number is passed over
not_has : (k : ℕ) (l : Line) → Sound l.bytes → leading_value l.bytes < k → has k (number_of l.bytes) ≡ false
not_has k l s h = rw s.is (ne_eqb (leading_value l.bytes) k (λ e. omega arith))

-- where numbers rise, it leads to one of the lines after its own
higher_after : (floor k : ℕ) (before : List Line) (l : Line) (ls : List Line) → Rising floor (before ++ (l ∷ ls)) → leading_value l.bytes < k
    → IsSuffix (from_number k (before ++ (l ∷ ls))) ls
higher_after floor k [] l ls r h =
    let e : from_number k (l ∷ ls) ≡ from_number k ls = from_miss k refl (not_has k l r.0 h) in rw e (from_suffix k ls)
higher_after floor k (m ∷ before) l ls r h =
    let s : IsSuffix (l ∷ ls) (before ++ (l ∷ ls)) = (before, refl) in
    let above = (rising_suffix (leading_value m.bytes + 1) s r.2).1 in
    let e : from_number k (m ∷ (before ++ (l ∷ ls))) ≡ from_number k (before ++ (l ∷ ls)) = from_miss k refl (not_has k m r.0 (omega (arith, above))) in
    rw e (higher_after (leading_value m.bytes + 1) k before l ls r.2 h)

pub higher_suffix : (k : ℕ) {l : Line} {ls all : List Line} → IsSuffix (l ∷ ls) all → Rising 0 all → leading_value l.bytes < k
    → IsSuffix (from_number k all) ls
higher_suffix k {l} {ls} s r h = rw (← s.1) (higher_after 0 k s.0 l ls (rw s.1 r) h)
