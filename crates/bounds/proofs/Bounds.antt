-- A run of a bounded recipe has always fewer statements ahead, so its steps never exceed them.
use Rattle.std.specs.Prelude.{Err, Ok, Result, Some, None}
use Rattle.loader.specs.declared.refusals.RefusedAt.{RefusedAt}
use mathlib.Core.Path.{◌≡◌, refl, sym, ◌∙◌, ap}
use mathlib.Core.Bool.{cond}
use mathlib.Core.List.{List, suffix_refl}
use Prim.Native.Nat.{ℕ, zero, suc, ◌+◌, ◌≤◌, ◌<◌}
use native.Mathlib.Omega.{arith}
use Rattle.whole.proofs.Never.{never}
use Rattle.words.proofs.Choices.{by_test}
use Rattle.loader.specs.Lines.{Line, lines_of}
use Rattle.loader.specs.Loading.{load_of}
use Rattle.loader.proofs.Rising.{recipe}
use Rattle.grammar.specs.Trees.{Part}
use Rattle.machine.specs.Items.{fresh}
use Rattle.machine.specs.Machine.{Machine, Lent}
use Rattle.runner.specs.Run.{Standing, finished, at, entering, turn, running, run_of}
use Rattle.runner.specs.declared.running.Ran as code
use Rattle.bounding.specs.Bounding.{is_bounded, statements_in, if_loaded, bound_of}
use Rattle.promises.specs.Calls.{text_of, input_of, lent_of, budget_of}
use Rattle.promises.specs.Passing.{stands_after}
use Rattle.promises.proofs.Limits.Bounds.{Stands, entering_stands, turn_stands, RunView, long, tall, unloaded, runs, run_view, steps_kept}
use Rattle.promises.proofs.OutOfSteps.{out_of_steps_exactly}
use Rattle.bounds.specs.Bounds.{BoundsAnswerAlways, Bounded, StepsBounded, BoundedNeverOut, ReportKept}
use Rattle.bounds.proofs.Ahead.{LinesOn, lines_on}
use Rattle.bounds.proofs.Turning.{StandingWithin, entering_within, turn_within, stood_some}

module _ (text : List ℕ) (b : Bounded text) where
  jumping : LinesOn (lines_of text)
  jumping = lines_on (lines_of text) b.bounded

  abbrev Ahead : ℕ → Standing → Type 0
  Ahead k s = StandingWithin (lines_of text) k s

  turned : (k : ℕ) (m : Machine) (lines : List Line) (p : Part) → Ahead (suc k) (at m lines p) → Ahead k (turn text m lines p)
  turned k m lines p h = turn_within (lines_of text) jumping text refl (recipe text b.loads).rising k m lines p h

  -- at the start all statements are ahead
  begun : (m : Machine) → Ahead (statements_in text) (entering m (lines_of text))
  begun m =
      entering_within (lines_of text) jumping (statements_in text) m (lines_of text)
      (record { among = suffix_refl (lines_of text); few = omega arith })

  -- ---- each turn counts one step, and takes one from those ahead

  running_bounded : (n : ℕ) (s : Standing) (k ahead : ℕ) → Stands (λ m. m.steps ≡ k) s → Ahead ahead s → (running n text s).machine.steps ≤ k + ahead
  unfolding running
  running_bounded zero (finished r) k ahead h a = omega arith
  running_bounded zero (at m lines p) k ahead h a = omega arith
  running_bounded (suc n) (finished r) k ahead h a = omega arith
  running_bounded (suc n) (at m lines p) k zero h a = stood_some (lines_of text) lines p a
  running_bounded (suc n) (at m lines p) k (suc ahead) h a =
      let s = turn_stands (λ m. m.steps ≡ suc k) (steps_kept (suc k)) text m lines p (omega arith) in
      let f = running_bounded n (turn text m lines p) (suc k) ahead s (turned ahead m lines p a) in
      omega arith

  -- so where a run still stands, fewer statements were begun than there were ahead
  stands_before : (n : ℕ) (s : Standing) (ahead : ℕ) → Ahead ahead s → {m : Machine} {lines : List Line} {p : Part} → stands_after n text s ≡ at m lines p
      → n < ahead
  unfolding stands_after
  stands_before zero s zero a {m} {lines} {p} e = stood_some (lines_of text) lines p (rw e at a)
  stands_before zero s (suc ahead) a e = omega arith
  stands_before (suc n) (finished r) ahead a e = never (cc)
  stands_before (suc n) (at o ls q) zero a e = stood_some (lines_of text) ls q a
  stands_before (suc n) (at o ls q) (suc ahead) a e = let h = stands_before n (turn text o ls q) ahead (turned ahead o ls q a) e in omega arith

  -- ---- a whole run

  run_bounded : (input : List ℕ) (lent : Lent) (budget : ℕ) → RunView text input lent budget → (run_of text input lent budget).machine.steps ≤ statements_in text
  run_bounded input lent budget (long h e) = rw e (omega arith)
  run_bounded input lent budget (tall h k e) = rw e (omega arith)
  run_bounded input lent budget (unloaded r p h s k e) = rw e (omega arith)
  run_bounded input lent budget (runs h s k e) =
      let m = fresh text input lent in
      let f = running_bounded budget (entering m (lines_of text)) 0 (statements_in text) (entering_stands (λ m. m.steps ≡ 0) m (lines_of text) refl) (begun m) in
      rw e (omega arith)

pub steps_bounded : StepsBounded
steps_bounded c b =
    let f = run_bounded (text_of c) b (input_of c) (lent_of c) (budget_of c) (run_view (text_of c) (input_of c) (lent_of c) (budget_of c)) in
    let e = ap (λ (y : code.Ran). y.steps) c.allowed.0 in
    omega arith

pub bounded_never_out : BoundedNeverOut
bounded_never_out c l b h o =
    let a = (out_of_steps_exactly c l).exactly.0 o in
    let m = fresh (text_of c) (input_of c) (lent_of c) in
    let f = stands_before (text_of c) b (budget_of c) (entering m (lines_of (text_of c))) (statements_in (text_of c)) (begun (text_of c) b m) a.stands in
    omega arith

-- ---- what is reported

record Reported (text : List ℕ) (n : ℕ) : Type 0 where
  bounded : Bounded text
  counts : statements_in text ≡ n

reported_by : (text : List ℕ) (n : ℕ) (x : Result (Unit {0}) RefusedAt) → load_of text ≡ x → if_loaded x (λ _. cond (is_bounded text) (Ok (Some (statements_in text))) (Ok None)) ≡ Ok (Some n)
    → Reported text n
reported_by text n (Ok _) e f =
    by_test (is_bounded text)
    (λ t. let g = rw t at f in record { bounded = record { loads = e; bounded = t }; counts = cc })
    (λ t. let g = rw t at f in never (cc))
reported_by text n (Err x) e f = never (cc)

reported : (text : List ℕ) (n : ℕ) → bound_of text ≡ Ok (Some n) → Reported text n
unfolding bound_of
reported text n e = reported_by text n (load_of text) refl e

pub report_kept : ReportKept
report_kept b n e c t =
    let r = rw (← t) at (reported b.passed.0.now n (sym b.allowed ∙ e)) in
    record {
      steps = rw (← r.counts) (steps_bounded c r.bounded);
      ends = λ l h. bounded_never_out c l r.bounded (omega (arith, h, r.counts));
    }

pub bounds_answer_always : BoundsAnswerAlways
bounds_answer_always lifetimes passed = (_, (tt, tt), refl)
