-- What a walk comes to for who judges a line, and for who looks for the ELSE of an IF.
use Rattle.std.specs.Prelude.{None, Option, Some, Result, Err}
use mathlib.Core.Path.{◌≡◌, refl, sym, ◌∙◌, ap}
use mathlib.Core.Bool.{Bool, true, false, ◌&&◌, and_assoc, and-true}
use mathlib.Core.List.{List, [], ◌∷◌, append-nil}
use Prim.Native.Nat.{ℕ, suc, max, ◌≤◌}
use native.Mathlib.Omega.{arith}
use borrow.Author.Tests.{lt-ltb, le-ltb, ltb-true, ltb-false}
use lib.Dec.{ltb}
use Rattle.whole.proofs.Never.{never}
use Rattle.words.specs.declared.places.Place.{Place}
use Rattle.words.specs.declared.symbols.Word.TheVariants.{Else}
use Rattle.words.proofs.Choices.{by_test}
use Rattle.grammar.specs.Tests.{is_keyword, ends_line}
use Rattle.grammar.specs.Trees.{Part}
use Rattle.grammar.proofs.Endings.{else_goes_on}
use Rattle.expressions.specs.Types.{is_whole, sort_of, depth_of, deepest_nesting}
use Rattle.expressions.specs.bridge.Answers.{capped_depth}
use Rattle.expressions.proofs.Answering.{max_assoc}
use Rattle.statements.specs.Parts.{formulas_of, deepest, rightly_typed, head_of, heads, statements_of, deepest_in, all_typed}
use Rattle.statements.specs.Statements.{Begun, bad, done, choice, begun_at, PartReading, bad_part, good_part, LineReading, does_not_read, reads, whole, read_line, part_of}
use Rattle.statements.specs.bridge.Answers.{fits, begun_answer}
use Rattle.statements.specs.declared.reading.StatementRead.{StatementRead}
use Rattle.reader.specs.Lines.{too_deep, holds, judged_read, judgement, judged_as, judged_of, else_after, else_of}
use Rattle.reader.specs.bridge.Walking.{follows_done, follow_of, onward_of, over, stray, Visited, stuck, visited, ahead, rest_at, resume, walk_from, walk_on, verdict_of, tallied_of}
use Rattle.reader.specs.declared.lines.LineFault.{LineFault}
use Rattle.reader.specs.declared.lines.LineFault.TheVariants.{Unreadable}
use Rattle.reader.specs.declared.lines.Tally.{Tally}
use Rattle.reader.specs.declared.walking.Onward.{Onward}
use Rattle.reader.proofs.Walks.{Itself, stepped}

-- ---- the verdict

-- of the rest of a line, after what was tallied
abbrev pub verdict_by : Tally → Visited → Result Bool LineFault
verdict_by t stuck = Err Unreadable
verdict_by t (visited xs over) =
    verdict_of (record { deepest = max t.deepest (deepest_in (heads xs)); typed = t.typed && all_typed (heads xs) })
verdict_by t (visited xs (stray q)) = Err Unreadable

abbrev pub untallied : Tally
untallied = record { deepest = 0; typed = true }

starts_by : (s : List ℕ) (r : PartReading) → verdict_by untallied (resume s 0 r) ≡ judged_as (judged_read (whole r))
unfolding rest_at
starts_by s bad_part = refl
starts_by s (good_part p t) =
    by_test (is_keyword Else t.token) (λ e. rw (e, else_goes_on t.token e)) λ e.
    by_test (ends_line t.token)
    (λ f.
    let z : max 0 (deepest_in (statements_of p)) ≡ deepest_in (statements_of p) = omega arith in
    rw (e, f, append-nil, z) (by_test (ltb deepest_nesting (deepest_in (statements_of p))) (λ g. rw g) (λ g. rw g)))
    (λ f. rw (e, f))

-- a line begins with nothing tallied
pub verdict_starts : (s : List ℕ) → verdict_by untallied (walk_from s false 0 0) ≡ judged_of s
unfolding read_line part_of
verdict_starts s = starts_by s (part_of s false 0)

-- and where it is over, what was tallied decides
pub verdict_ends : (t : Tally) → verdict_by t (visited [] over) ≡ verdict_of t
unfolding heads deepest_in all_typed
verdict_ends t = let z : max t.deepest 0 ≡ t.deepest = omega arith in rw (z, and-true)

-- a depth above nine is as good as nine
capped_verdict : (a b : ℕ) (y : Bool) → capped_depth a ≡ capped_depth b
    → verdict_of (record { deepest = a; typed = y }) ≡ verdict_of (record { deepest = b; typed = y })
capped_verdict a b y e =
    by_test (ltb deepest_nesting a)
    (λ t. let h = ltb-true deepest_nesting a t in rw (t, lt-ltb deepest_nesting b (omega arith)))
    (λ t. let h = ltb-false deepest_nesting a t in rw (t, le-ltb deepest_nesting b (omega arith)))

capped_max : (a b c : ℕ) → capped_depth a ≡ capped_depth b → capped_depth (max a c) ≡ capped_depth (max b c)
capped_max a b c e = omega arith

capped_join : (a b c : ℕ) → capped_depth (max a (max b c)) ≡ capped_depth (max (max a (capped_depth b)) c)
capped_join a b c =
    let e : capped_depth (max a b) ≡ capped_depth (max a (capped_depth b)) = omega arith in
    ap (λ x. capped_depth x) (max_assoc a b c) ∙ capped_max (max a b) (max a (capped_depth b)) c e

-- types count only where nothing nests too deep
verdict_fronts : (t : Tally) (own : Part) (a : ℕ) (y : Bool) (v : Visited) → deepest (formulas_of (head_of own)) ≡ a → rightly_typed (head_of own) ≡ y
    → verdict_by t (ahead (own ∷ []) v) ≡ verdict_by (record { deepest = max t.deepest (capped_depth a); typed = t.typed && (fits a && y) }) v
unfolding heads deepest_in all_typed
verdict_fronts t own a y stuck d e = refl
verdict_fronts t own a y (visited xs over) d e =
    let all = max t.deepest (max a (deepest_in (heads xs))) in
    let capped = max (max t.deepest (capped_depth a)) (deepest_in (heads xs)) in
    by_test (fits a)
    (λ f. rw (d, e, f, ← (and_assoc t.typed y (all_typed (heads xs))))
    (capped_verdict all capped ((t.typed && y) && all_typed (heads xs)) (capped_join t.deepest a (deepest_in (heads xs)))))
    (λ f.
    let h = ltb-false a 9 f in
    rw (d, lt-ltb deepest_nesting all (omega arith), lt-ltb deepest_nesting capped (omega arith)))
verdict_fronts t own a y (visited xs (stray q)) d e = refl

module _ (s : List ℕ) (k : ℕ) (t : Tally) (own : Part) where
  verdict_by_lem : (b : Begun) → Itself b (head_of own)
      → verdict_by t (ahead (own ∷ []) (walk_on s (onward_of k (follow_of (begun_answer b)))))
      ≡ verdict_by (tallied_of t (begun_answer b)) (walk_on s (onward_of k (follow_of (begun_answer b))))
  unfolding deepest
  verdict_by_lem bad h = refl
  verdict_by_lem (done x u) h =
      verdict_fronts t own (deepest (formulas_of x)) (rightly_typed x) (walk_on s (onward_of k (follows_done u))) (ap (λ y. deepest (formulas_of y)) h) (ap rightly_typed h)
  verdict_by_lem (choice c u) h =
      let z : max (depth_of c) 0 ≡ depth_of c = omega arith in
      verdict_fronts t own (depth_of c) (is_whole (sort_of c)) (walk_from s true (suc k) u.next.0) (ap deepest h.0 ∙ z) h.1.0

-- from a statement that was read and tallied to what follows it
pub verdict_steps : (s : List ℕ) (first : Bool) (k p : ℕ) (t : Tally) {read : Option StatementRead} {o : Option Onward} {t' : Tally} {j : Result Bool LineFault}
    → read ≡ begun_answer (begun_at s first p) → t' ≡ tallied_of t read → o ≡ onward_of k (follow_of read)
    → verdict_by t (walk_from s first k p) ≡ j → verdict_by t' (walk_on s o) ≡ j
verdict_steps s first k p t e f i h =
    let w = stepped s first k p refl refl in
    rw (f, i, e) (sym (verdict_by_lem s k t w.own (begun_at s first p) w.itself) ∙ ap (verdict_by t) (sym w.is) ∙ h)

-- a line that holds a part reads as it
-- what a line holds does not nest too deep
shallow_by : (r : LineReading) (p : Part) → judged_read r ≡ holds p → deepest_in (statements_of p) ≤ deepest_nesting
shallow_by does_not_read p e = never (cc)
shallow_by (reads q) p e =
    by_test (ltb deepest_nesting (deepest_in (statements_of q)))
    (λ t. let f : too_deep ≡ holds p = rw t at e in never (cc))
    (λ t. let f : holds q ≡ holds p = rw t at e in let g : q ≡ p = cc in rw (← g) (ltb-false deepest_nesting (deepest_in (statements_of q)) t))

pub holds_shallow : (s : List ℕ) {p : Part} → judgement s ≡ holds p → deepest_in (statements_of p) ≤ deepest_nesting
holds_shallow s {p} e = shallow_by (read_line s) p e

pub held : (s : List ℕ) {p : Part} → judgement s ≡ holds p → read_line s ≡ reads p
held s e = by_reading (read_line s) e
  where
    by_reading : (r : LineReading) {p : Part} → judged_read r ≡ holds p → r ≡ reads p
    by_reading does_not_read e = never (cc)
    by_reading (reads q) e =
        by_test (ltb deepest_nesting (deepest_in (statements_of q)))
        (λ f. let g = rw f at e in never (cc))
        (λ f. let g = rw f at e in cc)

-- ---- the ELSE of an IF

abbrev pub else_by : Visited → Option Place
else_by stuck = None
else_by (visited xs over) = None
else_by (visited xs (stray q)) = Some q

else_by_lem : (s : List ℕ) (r : PartReading) → else_by (resume s 0 r) ≡ else_after r
unfolding rest_at
else_by_lem s bad_part = refl
else_by_lem s (good_part p t) =
    by_test (is_keyword Else t.token) (λ e. rw e) λ e.
    by_test (ends_line t.token) (λ f. rw (e, f)) (λ f. rw (e, f))

pub else_starts : (s : List ℕ) (at : Place) → else_by (walk_from s true 0 at.0) ≡ else_of s at
else_starts s at = else_by_lem s (part_of s true at.0)

else_fronts : (xs : List Part) (v : Visited) → else_by (ahead xs v) ≡ else_by v
else_fronts xs stuck = refl
else_fronts xs (visited ys over) = refl
else_fronts xs (visited ys (stray q)) = refl

pub else_steps : (s : List ℕ) (first : Bool) (k p : ℕ) {read : Option StatementRead} {o : Option Onward} {b : Option Place} → read ≡ begun_answer (begun_at s first p)
    → o ≡ onward_of k (follow_of read) → else_by (walk_from s first k p) ≡ b → else_by (walk_on s o) ≡ b
else_steps s first k p {o = o} e i h =
    let w = stepped s first k p e i in sym (else_fronts (w.own ∷ []) (walk_on s o)) ∙ ap else_by (sym w.is) ∙ h
