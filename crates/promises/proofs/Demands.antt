-- The demands hold.
use Rattle.checker.specs.declared.checking.Fault.{Fault}
use Rattle.std.specs.Prelude.{Ok, Err, Result}
use Rattle.loader.specs.Refusals.{refused_at}
use mathlib.Core.Path.{◌≡◌, refl, sym, ap, subst, ◌∙◌}
use mathlib.Core.Bool.{Bool, true, false, cond}
use mathlib.Core.List.{List, [], ◌∷◌, ◌++◌}
use mathlib.Core.Logic.{◌↔◌}
use Prim.Native.Nat.{ℕ, ◌-◌, ◌≤◌}
use native.Mathlib.Omega.{arith}
use Rattle.whole.specs.declared.errors.Error.{Error}
use Rattle.whole.specs.declared.errors.Error.TheVariants.{OutOfStringSpace}
use Rattle.words.specs.Places.{place, line_number}
use Rattle.words.specs.declared.places.LineNumber.{LineNumber}
use Rattle.words.specs.declared.places.Place.{Place}
use Rattle.loader.specs.Lines.{lines_of}
use Rattle.loader.specs.Loading.{load_of}
use Rattle.loader.specs.declared.refusals.Refusal.{Refusal}
use lib.ListN.{length, replicate, length-append, length-drop, length-replicate}
use Rattle.variables.specs.Variables.{StringVariable, string_bytes, joined_strings}
use Rattle.machine.specs.Machine.{Lent}
use Rattle.machine.specs.Records.{blank_record}
use Rattle.machine.specs.declared.records.Record.{Record}
use Rattle.checker.specs.Check.{check_of}
use Rattle.checker.specs.declared.checking.Fault.TheVariants as verdict
use Rattle.runner.specs.Run as run
use Rattle.runner.specs.Run.{is_refused}
use Rattle.runner.specs.declared.running.Outcome.{Outcome}
use Rattle.runner.specs.declared.running.Ran.{Ran}
use Rattle.promises.specs.Calls.{RunCall, CheckCall, text_of, input_of, space_before, room_before, room_after, stack_before, lent_of, budget_of, tables_before, recipe_of, tables_handed, space_handed, name_asked}
use Rattle.promises.proofs.Waiting.Runs.{few_unfinished}
use Rattle.promises.specs.Demands.{RefusedFor, WasRefused, Tells, first_refusal, ChecksExactlyFacts, ran_of, AnswersAlways, StopsWithinBudget, RefusesExactly, RefusalsChangeNothing, StaysWithinMemory, AskedPartsLieInside, RunsAsDefined, MadeExactly, FourteenExactly, ChecksExactly, PassedRecipesEndWell, FewAtOnce}
use Rattle.promises.specs.Faults.{AllFaultless, FirstFault}
use Rattle.promises.specs.Passing.{ends_well}
use Rattle.promises.proofs.Numbers.{failed_told, refused_told, fault_low, Unloads, faulty_told, passed_told}
use Rattle.promises.proofs.Limits.Bounds.{steps_within, output_within, input_within, strings_within}
use Rattle.promises.proofs.Fourteen.Formulas.{make_over, make_refused}
use Rattle.promises.proofs.Fourteen.Runs as fourteen
use Rattle.promises.proofs.Limits.Refusals as refusals
use Rattle.promises.proofs.Parts.{asked_inside}
use Rattle.promises.proofs.Passing.{checked_runs_end_well}
use Rattle.promises.proofs.Verdicts as verdicts
use Rattle.promises.proofs.Waiting.Needs.{live_is_exact}

-- ---- what `run` answers and leaves, by its contract

-- the strings' bytes, joined, are as many as they have
joined_long : (vs : List StringVariable) → length (joined_strings vs) ≡ string_bytes vs
unfolding joined_strings string_bytes
joined_long [] = refl
joined_long (v ∷ vs) = rw (length-append, joined_long vs)

left_long : (refused : Bool) (vs : List StringVariable) (space : List ℕ) → string_bytes vs ≤ length space
    → length (cond refused space (joined_strings vs ++ replicate (length space - string_bytes vs) 0)) ≡ length space
left_long true vs space h = refl
left_long false vs space h = rw (length-append, length-replicate, joined_long) (omega arith)

stack_long : (refused : Bool) (stack : List Record) → length (cond refused stack (replicate (length stack) blank_record)) ≡ length stack
stack_long true stack = refl
stack_long false stack = length-replicate (length stack) blank_record

-- a law of all runs, of the one that was called for
of : {P : List ℕ → List ℕ → Lent → ℕ → Type 0} → ((text input : List ℕ) (lent : Lent) (budget : ℕ) → P text input lent budget)
    → (c : RunCall) → P (text_of c) (input_of c) (lent_of c) (budget_of c)
of law c = law (text_of c) (input_of c) (lent_of c) (budget_of c)

-- what is answered exactly when, of what is equal to the answer
told_exactly : {A P : Type 0} {x y z : A} → x ≡ y → (y ≡ z) ↔ P → (x ≡ z) ↔ P
told_exactly e h = (λ f. h.0 (sym e ∙ f), λ p. e ∙ h.1 p)

module _ (c : RunCall) where
  outcome_told : c.answer.outcome ≡ (ran_of c).ending
  outcome_told = ap (λ (y : Ran). y.outcome) c.allowed.0

  -- the room for output holds the output, and has no more bytes than before
  output_fits : length (ran_of c).machine.output ≤ length (room_before c)
  output_fits = of output_within c

  room_long : length (room_after c) ≡ length (room_before c)
  room_long =
      let h = output_fits in
      ap length c.allowed.1.1.0
      ∙ rw (length-append, length-drop) (omega arith)

-- ---- demand 1

pub answers_always : AnswersAlways
answers_always =
    record {
      run = λ lifetimes passed. (_, (tt, (tt, (_, (_, (tt, (_, (tt, (tt, tt)))))))), (refl, (refl, (refl, refl))));
      check = λ lifetimes passed. (_, (tt, tt), refl);
      ask = λ lifetimes passed. (_, (tt, (tt, (tt, tt))), refl);
    }

pub stops_within_budget : StopsWithinBudget
stops_within_budget c =
    let e = ap (λ (y : Ran). y.steps) c.allowed.0 in
    omega (arith, e, of steps_within c)

pub refuses_exactly : RefusesExactly
refuses_exactly c number at =
    subst (λ (o : Outcome). WasRefused o number at ↔ RefusedFor (text_of c) (lent_of c) number at) (sym (outcome_told c))
    (of refusals.refused_numbered c number at)

pub refusals_change_nothing : RefusalsChangeNothing
refusals_change_nothing c h =
    let k = refused_told c.answer.outcome _ _ (record { refused = h; numbered = refl; placed = refl }) in
    let e = of refusals.refused_fresh c k.refusal _ (sym (outcome_told c) ∙ k.is) in
    let a = c.allowed.0 ∙ ap (λ x. run.answer_of x (tables_before c)) e in
    record {
      steps = ap (λ (y : Ran). y.steps) a;
      written = ap (λ (y : Ran). y.written) a;
      taken = ap (λ (y : Ran). y.taken) a;
      tables = ap (λ (y : Ran). y.tables) a;
      space = c.allowed.1.0 ∙ ap (λ x. run.space_after x (space_before c)) e;
      room = c.allowed.1.1.0 ∙ ap (λ x. run.room_after x (room_before c)) e;
      stack = c.allowed.1.1.1 ∙ ap (λ x. run.stack_after x (stack_before c)) e;
    }

pub stays_within_memory : StaysWithinMemory
stays_within_memory c =
    let strings = of (strings_within live_is_exact) c in
    record {
      written = omega (arith, ap (λ (y : Ran). y.written) c.allowed.0, output_fits c);
      taken = omega (arith, ap (λ (y : Ran). y.taken) c.allowed.0, of input_within c);
      strings = strings;
      space = ap length c.allowed.1.0 ∙ left_long (is_refused (ran_of c).ending) (ran_of c).machine.variables.strings (space_before c) strings;
      room = room_long c;
      stack = ap length c.allowed.1.1.1 ∙ stack_long (is_refused (ran_of c).ending) (stack_before c);
    }

pub asked_parts_lie_inside : AskedPartsLieInside
asked_parts_lie_inside c from len e = asked_inside (tables_handed c) (length (space_handed c)) (name_asked c) from len (sym c.allowed ∙ e)

-- ---- demand 2

pub runs_as_defined : RunsAsDefined
runs_as_defined c = record { answer = c.allowed.0; space = c.allowed.1.0; room = c.allowed.1.1.0; stack = c.allowed.1.1.1 }

pub made_exactly : MadeExactly
made_exactly b room = (λ e. make_over b room e, λ h. make_refused b room h)

pub fourteen_exactly : FourteenExactly
fourteen_exactly c line =
    let exactly = told_exactly (outcome_told c) (of (fourteen.fourteen_exactly live_is_exact) c (line_number line)) in (
      (λ h. exactly.0 (failed_told OutOfStringSpace (omega arith) c.answer.outcome line h.0 h.1)),
      (λ h. rw (exactly.1 h) (refl, refl)),
    )

module _ (c : CheckCall) where
  faulty : (e : Error) (n : LineNumber) → (c.answer ≡ Err (verdict.Faulty e n)) ↔ ((load_of (recipe_of c) ≡ Ok tt) × FirstFault (recipe_of c) e n)
  faulty e n = told_exactly c.allowed (verdicts.faulty_exactly (recipe_of c) e n)

  refused : (r : Refusal) (p : Place) → (c.answer ≡ Err (verdict.Refused r p)) ↔ (load_of (recipe_of c) ≡ refused_at r p)
  refused r p = told_exactly c.allowed (verdicts.refused_exactly (recipe_of c) r p)

  passed : (c.answer ≡ Ok tt) ↔ ((load_of (recipe_of c) ≡ Ok tt) × AllFaultless (lines_of (recipe_of c)) (lines_of (recipe_of c)))
  passed = told_exactly c.allowed (verdicts.passed_exactly (recipe_of c))

  -- a number from 100 on is no fault's
  no_fault : (v : Result (Unit {0}) Fault) → c.answer ≡ v → (number at : ℕ) → first_refusal ≤ number → Tells v number 0 at → Unloads v number at
  no_fault (Ok _) e n p h t = absurd (omega (arith, t.numbered))
  no_fault (Err (verdict.Refused r q)) e n p h t = record { refusal = r; numbered = t.numbered; is = ap (λ p. Err (verdict.Refused r p)) (ap place t.placed) }
  no_fault (Err (verdict.Faulty d k)) e n p h t = absurd (omega (arith, t.numbered, fault_low ((faulty d k).0 e).1.fault))

  unloaded_told : (number at : ℕ) → first_refusal ≤ number → Tells c.answer number 0 at → Unloads c.answer number at
  unloaded_told = no_fault c.answer refl

  pub checks_so : ChecksExactlyFacts c
  checks_so =
      record {
        faulty = λ number line some low. (
          (λ t.
              let k = faulty_told c.answer number line 0 some low t in
              let f = (faulty k.error (line_number line)).0 k.is in
              (f.0, record { error = k.error; numbered = k.numbered; first = f.1 })),
          (λ f.
              let e = (faulty f.1.error (line_number line)).1 (f.0, f.1.first) in
              rw e (record { numbered = f.1.numbered; lined = refl; placed = refl })),
        );
        refused = λ number at high. (
          (λ t. let k = unloaded_told number at high t in record { refusal = k.refusal; numbered = k.numbered; loads = (refused k.refusal (place at)).0 k.is }),
          (λ l. rw ((refused l.refusal (place at)).1 l.loads) (record { numbered = l.numbered; lined = refl; placed = refl })),
        );
        passed = (
          (λ t. passed.0 (passed_told c.answer t.numbered)),
          (λ h. rw (passed.1 h) (record { numbered = refl; lined = refl; placed = refl })),
        );
      }

pub checks_exactly : ChecksExactly
checks_exactly c = checks_so c

-- ---- demand 3

pub passed_recipes_end_well : PassedRecipesEndWell
passed_recipes_end_well k c same e =
    ap ends_well (outcome_told c)
    ∙ of checked_runs_end_well c
    (ap check_of (sym same) ∙ sym k.allowed ∙ passed_told k.answer e)

pub few_at_once : FewAtOnce
few_at_once c = of few_unfinished c
