-- A run of a recipe without FRE in a larger space: the same but for the space, or the first ends in 14.
use Rattle.std.specs.Prelude.{Err, Ok, Result}
use Rattle.loader.specs.declared.refusals.RefusedAt.{RefusedAt}
use mathlib.Core.Path.{◌≡◌, refl}
use mathlib.Core.Bool.{Bool, true, false, cond}
use mathlib.Core.List.{List, [], ◌∷◌}
use Prim.Native.Nat.{ℕ, zero, suc, ◌≤◌}
use native.Mathlib.Omega.{arith}
use lib.Dec.{ltb}
use borrow.Author.Tests.{le-ltb}
use Rattle.whole.specs.declared.errors.Error.TheVariants.{OutOfStringSpace}
use Rattle.words.specs.declared.places.LineNumber.{LineNumber}
use Rattle.words.proofs.Choices.{both}
use Rattle.loader.specs.Lines.{Line, lines_of, after_number, next_line}
use Rattle.loader.specs.Loading.{load_of}
use Rattle.grammar.specs.Trees.{Formula, Part}
use Rattle.statements.specs.Parts.{formulas_of, head_of, tail_of, place_of, Rest, nothing, part, heads}
use Rattle.reader.specs.Lines.{Judgement, unreadable, too_deep, holds, judgement}
use Rattle.variables.specs.Strings.{longest_space}
use Rattle.machine.specs.Items.{fresh}
use Rattle.machine.specs.Machine.{Position, Machine, Lent, most_records, with_step}
use Rattle.machine.specs.Order.{Stand, placed, stands_in, stands}
use Rattle.order.proofs.Laws.{Every, every_front, every_back, Throughout}
use Rattle.turns.specs.Steps.{Next}
use Rattle.runner.specs.Run.{Ran, ends_with, line_number_of, enter, judged_line, Standing, finished, at, by_entered, entering, onward, following, turn, running, if_loaded, run_of}
use Rattle.runner.specs.declared.running.Outcome.TheVariants.{Failed}
use Rattle.laws.specs.Laws.{without_fre}
use Rattle.laws.proofs.Positions.{RestThroughout, head_throughout, next_throughout}
use Rattle.larger.specs.Larger.{no_fre_in, no_fre_among, recipe_without_fre}
use Rattle.larger.proofs.Machines as machines
use Rattle.larger.proofs.Machines.{FreeFormula, FreeStatement, FreeLines, widened, Apt, Same}
use Rattle.larger.proofs.Turning.{statement_same}

-- ---- all lines of a recipe without FRE

formulas_free : (fs : List Formula) → no_fre_in fs ≡ true → Every FreeFormula fs
unfolding no_fre_in
formulas_free [] e = tt
formulas_free (f ∷ fs) e = let h = both (without_fre f) (no_fre_in fs) e in (h.0, formulas_free fs h.1)

abbrev FreeStand : Stand → Type 0
FreeStand s = FreeStatement (head_of s.part)

stands_free : (ss : List Stand) → no_fre_among ss ≡ true → Every FreeStand ss
unfolding no_fre_among
stands_free [] e = tt
stands_free (s ∷ ss) e =
    let fs = formulas_of (head_of s.part) in
    let h = both (no_fre_in fs) (no_fre_among ss) e in
    (formulas_free fs h.0, stands_free ss h.1)

placed_free : (ls : List Line) (ps : List Part) → Every FreeStand (placed ls ps) → Every FreeStatement (heads ps)
unfolding placed heads
placed_free ls [] h = tt
placed_free ls (p ∷ ps) h = (h.0, placed_free ls ps h.1)

lines_free : (ls : List Line) → Every FreeStand (stands ls) → FreeLines ls
unfolding stands
lines_free [] h = tt
lines_free (l ∷ ls) h = (
  (λ p e. placed_free (l ∷ ls) _ (rw e at (every_front FreeStand (stands_in (l ∷ ls)) (stands ls) h))),
  lines_free ls (every_back FreeStand (stands_in (l ∷ ls)) (stands ls) h),
)

-- ---- two runs

abbrev pub widened_ran : ℕ → Ran → Ran
widened_ran k r = ends_with r.ending (widened k r.machine)

pub data SameRun (k : ℕ) : Ran → Ran → Type 0 where
  same : {r : Ran} → SameRun k r (widened_ran k r)
  lacked : {l : LineNumber} {m : Machine} {s : Ran} → SameRun k (ends_with (Failed OutOfStringSpace l) m) s

-- where they stand
data SameStanding (k : ℕ) : Standing → Standing → Type 0 where
  over : {r : Ran} → SameStanding k (finished r) (finished (widened_ran k r))
  there : {m : Machine} {lines : List Line} {p : Part} → Apt k m → FreeLines lines → Throughout FreeStatement p
      → SameStanding k (at m lines p) (at (widened k m) lines p)
  short : {l : LineNumber} {m : Machine} {x : Standing} → SameStanding k (finished (ends_with (Failed OutOfStringSpace l) m)) x

module _ (k : ℕ) where
  entering_same : (m : Machine) (lines : List Line) → Apt k m → FreeLines lines → SameStanding k (entering m lines) (entering (widened k m) lines)
  unfolding enter
  entering_same m [] s h = over
  entering_same m (l ∷ ls) s h = by_judgement (judgement (after_number l)) refl
    where
      by_judgement : (j : Judgement) → judgement (after_number l) ≡ j
          → SameStanding k (by_entered (judged_line j) m (l ∷ ls)) (by_entered (judged_line j) (widened k m) (l ∷ ls))
      by_judgement unreadable e = over
      by_judgement too_deep e = over
      by_judgement (holds p) e = there s h (h.0 p e)

  onward_same : (m : Machine) (lines : List Line) (r : Rest) → Apt k m → FreeLines lines → RestThroughout FreeStatement r
      → SameStanding k (onward m lines r) (onward (widened k m) lines r)
  onward_same m lines nothing s h r = entering_same m (next_line lines) s (next_throughout FreeStatement lines h)
  onward_same m lines (part p) s h r = there s h r

  following_same : (l : LineNumber) {x y : Next} → Same k x y → SameStanding k (following l x) (following l y)
  following_same l (machines.onward {m = m} {p = p} s a) = onward_same m p.lines p.rest s a.0 a.1
  following_same l (machines.entered {m = m} {ls = ls} s h) = entering_same m ls s h
  following_same l machines.ended = over
  following_same l machines.stopped = over
  following_same l machines.failed = over
  following_same l machines.lacked = short

  turn_same : (program : List ℕ) (m : Machine) (lines : List Line) (p : Part) → FreeLines (lines_of program) → Apt k m → FreeLines lines
      → Throughout FreeStatement p → SameStanding k (turn program m lines p) (turn program (widened k m) lines p)
  turn_same program m lines p f s h g =
      let x = head_throughout FreeStatement p g in
      let after : Position = record { lines = lines; rest = tail_of p } in
      following_same (line_number_of lines)
      (statement_same k program (place_of p) (head_of p) (with_step m) after f x.0 x.1 (record { small = s.small; held = s.held }) (h, x.2))

  running_same : (budget : ℕ) (program : List ℕ) {x y : Standing} → FreeLines (lines_of program) → SameStanding k x y
      → SameRun k (running budget program x) (running budget program y)
  unfolding running
  running_same zero program f over = same
  running_same zero program f (there s h g) = same
  running_same zero program f short = lacked
  running_same (suc n) program f over = same
  running_same (suc n) program f (there {m = m} {lines = lines} {p = p} s h g) = running_same n program f (turn_same program m lines p f s h g)
  running_same (suc n) program f short = lacked

  loaded_same : (x : Result (Unit {0}) RefusedAt) (m : Machine) (go : Machine → Ran) → SameRun k (go m) (go (widened k m))
      → SameRun k (if_loaded x m (λ _. go m)) (if_loaded x (widened k m) (λ _. go (widened k m)))
  loaded_same (Ok _) m go h = h
  loaded_same (Err e) m go h = same

  either_run : (t : Bool) {x y x' y' : Ran} → SameRun k x x' → SameRun k y y' → SameRun k (cond t x y) (cond t x' y')
  either_run true h g = h
  either_run false h g = g

  pub run_same : (text input : List ℕ) (lent : Lent) (budget : ℕ) → recipe_without_fre text ≡ true → lent.space ≤ k → k ≤ longest_space
      → SameRun k (run_of text input lent budget) (run_of text input (record { space = k; room = lent.room; records = lent.records }) budget)
  unfolding run_of
  run_same text input lent budget e h small =
      let f = lines_free (lines_of text) (stands_free (stands (lines_of text)) e) in
      let fits : lent.space ≤ longest_space = omega arith in
      let m = fresh text input lent in
      rw (le-ltb longest_space lent.space fits, le-ltb longest_space k small)
      (either_run (ltb most_records lent.records) same
      (loaded_same (load_of text) m (λ n. running budget text (entering n (lines_of text)))
      (running_same budget text f (entering_same m (lines_of text) (record { small = h; held = tt }) f))))
