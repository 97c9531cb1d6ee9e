-- What a box is told, by the contracts of the library's functions.
use Rattle.std.specs.Prelude.{Err, Ok, Result}
use Rattle.checker.specs.declared.checking.Fault.{Fault}
use mathlib.Core.Path.{◌≡◌, refl, sym, ap, ap₂, subst, ◌∙◌}
use mathlib.Core.Bool.{true, false, false≢true}
use mathlib.Core.List.{List, [], ◌∷◌}
use Prim.Native.Nat.{ℕ, ◌+◌, ◌≤◌}
use native.Mathlib.Omega.{arith}
use borrow.Author.Tests.{not-true}
use lib.ListN.{length, get_or}
use Rattle.words.proofs.Choices.{by_test}
use Rattle.variables.specs.declared.tables.Tables.{Tables}
use Rattle.machine.specs.Items.{fresh}
use Rattle.checker.specs.Check.{check_of}
use Rattle.checker.specs.declared.checking.Fault.TheVariants as verdict
use Rattle.asking.specs.Asking.{ask_of}
use Rattle.asking.specs.declared.questions.Asked.{Asked}
use Rattle.loader.specs.declared.refusals.Refusal.{Refusal}
use Rattle.asking.specs.declared.questions.Asked.TheVariants as asked
use Rattle.blocks.specs.Blocks.{tables_in}
use Rattle.host.specs.Answers.{outcome_in, answer_in, passed_in, found_in}
use Rattle.host.specs.Calls.{block_after}
use Rattle.runner.specs.Run.{Ran, ends_with, is_refused, number_in, answer_of, space_after, room_after, stack_after, run_of}
use Rattle.runner.specs.declared.running.Outcome.{Outcome}
use Rattle.runner.specs.declared.running.Outcome.TheVariants.{Ended, Stopped, Out, Failed, Refused}
use Rattle.promises.specs.Calls.{RunBox, text_in, input_in, space_in, room_in, records_in, lent_in, budget_in, block_in, answer_word, outcome_word, refused_word, recipe_in, space_asked, name_in, found_words}
use Rattle.promises.specs.Boxes.{BoxesAnswerAlways, BoxStopsWithinBudget, BoxRefusesExactly, BoxRefusalsChangeNothing, BoxPassedRunsEndWell, BoxAsksWell, Told, its_number, its_part, no_variable, BoxAsksAfterRuns}
use Rattle.promises.specs.Questions as questions
use Rattle.promises.specs.Questions.{Reply, Says, answer_for}
use Rattle.promises.specs.Passing.{spared_numbers, one_of}
use Rattle.promises.proofs.Limits.Bounds.{steps_within}
use Rattle.promises.proofs.Limits.Refusals.{refused_fresh, refused_numbered}
use Rattle.promises.proofs.Numbers.{refused_told}
use Rattle.promises.proofs.Parts.{Inside, ask_inside}
use Rattle.promises.proofs.Passing.{checked_runs_end_well}
use Rattle.promises.proofs.Questions.Asking.{answers_after_runs}

-- ---- how a run ended, by its word

word_refused : (o : Outcome) → outcome_in o ≡ refused_word → is_refused o ≡ true
word_refused Ended e = absurd (omega arith)
word_refused (Stopped l) e = absurd (omega arith)
word_refused (Out l) e = absurd (omega arith)
word_refused (Failed x l) e = absurd (omega arith)
word_refused (Refused r p) e = refl

refused_word_lem : (o : Outcome) → is_refused o ≡ true → outcome_in o ≡ refused_word
refused_word_lem Ended e = absurd (false≢true e)
refused_word_lem (Stopped l) e = absurd (false≢true e)
refused_word_lem (Out l) e = absurd (false≢true e)
refused_word_lem (Failed x l) e = absurd (false≢true e)
refused_word_lem (Refused r p) e = refl

-- ---- a run

module _ (c : RunBox) where
  abbrev ran : Ran
  ran = run_of (text_in c) (input_in c) (lent_in c) (budget_in c)

  told : (i : ℕ) → answer_word c i ≡ get_or (answer_in (answer_of ran (tables_in (block_in c)))) i 0
  told i = ap (λ (x : List ℕ). get_or x i 0) c.allowed.told.answered

pub boxes_answer_always : BoxesAnswerAlways
boxes_answer_always =
    record {
      check = λ lifetimes passed. (_, (tt, (_, tt)), refl);
      ask = λ lifetimes passed. (_, (tt, (tt, (tt, (_, tt)))), refl);
    }

pub box_stops_within_budget : BoxStopsWithinBudget
box_stops_within_budget c = omega (arith, told c 4, steps_within (text_in c) (input_in c) (lent_in c) (budget_in c))

pub box_refuses_exactly : BoxRefusesExactly
box_refuses_exactly c number at =
    let exactly = refused_numbered (text_in c) (input_in c) (lent_in c) (budget_in c) number at in (
      (λ w. exactly.0 (record { refused = word_refused (ran c).ending (sym (told c 0) ∙ w.refused); numbered = sym (told c 1) ∙ w.numbered; placed = sym (told c 3) ∙ w.placed })),
      (λ f.
          let w = exactly.1 f in
          record { refused = told c 0 ∙ refused_word_lem (ran c).ending w.refused; numbered = told c 1 ∙ w.numbered; placed = told c 3 ∙ w.placed }),
    )

pub box_refusals_change_nothing : BoxRefusalsChangeNothing
box_refusals_change_nothing c h =
    let w = word_refused (ran c).ending (sym (told c 0) ∙ h) in
    let k = refused_told (ran c).ending _ _ (record { refused = w; numbered = refl; placed = refl }) in
    let e : ran c ≡ ends_with (Refused k.refusal _) (fresh (text_in c) (input_in c) (lent_in c)) = refused_fresh (text_in c) (input_in c) (lent_in c) (budget_in c) k.refusal _ k.is in
    record {
      steps = told c 4 ∙ ap (λ (x : Ran). x.machine.steps) e;
      written = told c 5 ∙ ap (λ (x : Ran). length x.machine.output) e;
      taken = told c 6 ∙ ap (λ (x : Ran). x.machine.taken) e;
      block = c.allowed.told.kept ∙ ap (λ x. block_after x (block_in c)) e;
      space = c.allowed.spaced ∙ ap (λ x. space_after x (space_in c)) e;
      room = c.allowed.roomy ∙ ap (λ x. room_after x (room_in c)) e;
      records = c.allowed.stacked ∙ ap (λ x. stack_after x (records_in c)) e;
    }

-- ---- a check

word_passed : (v : Result (Unit {0}) Fault) → passed_in v ≡ 0 → v ≡ Ok tt
word_passed (Ok _) e = refl
word_passed (Err (verdict.Refused r p)) e = absurd (omega arith)
word_passed (Err (verdict.Faulty x l)) e = absurd (omega arith)

pub box_passed_runs_end_well : BoxPassedRunsEndWell
box_passed_runs_end_well k c same e =
    let passed : check_of (text_in c) ≡ Ok tt = ap check_of (sym same) ∙ word_passed (check_of (recipe_in k)) (sym (ap (λ (x : List ℕ). get_or x 0 0) k.allowed) ∙ e) in
    ap (one_of spared_numbers) (told c 1) ∙ not-true (one_of spared_numbers (number_in (ran c).ending)) (checked_runs_end_well (text_in c) (input_in c) (lent_in c) (budget_in c) passed)

-- ---- a question

found_well : (space : ℕ) (x : Result Asked Refusal) → Inside space x
    → (one_of (0 ∷ 111 ∷ []) (get_or (found_in x) 0 0) ≡ true) × (get_or (found_in x) 3 0 + get_or (found_in x) 4 0 ≤ space)
found_well space (Ok (asked.Whole w)) h = (refl, omega arith)
found_well space (Ok (asked.Text from len)) h = (refl, h)
found_well space (Err r) h = rw h (refl, omega arith)

pub box_asks_well : BoxAsksWell
box_asks_well c =
    let block = c.passed.0.now in let name = c.passed.1.1.0.now in let space = length (space_asked c) in
    let w = found_well space (ask_of (tables_in block) space name) (ask_inside (tables_in block) space name) in
    record {
      numbered = ap (λ (x : List ℕ). one_of (0 ∷ 111 ∷ []) (get_or x 0 0)) c.allowed ∙ w.0;
      inside = subst (λ (x : List ℕ). get_or x 3 0 + get_or x 4 0 ≤ space) (sym c.allowed) w.1;
    }

-- ---- a question after a run

told_by : {space : List ℕ} {x : Result Asked Refusal} {r : Reply} → Says space x r → Told space (found_in x) r
told_by (questions.its_word w) = its_number w refl refl refl
told_by (questions.its_part front bytes back e) = its_part front bytes back e refl refl refl refl
told_by questions.refused = no_variable refl

begun : (c : RunBox) → (outcome_word c ≡ refused_word → ⊥) → is_refused (ran c).ending ≡ false
begun c h = by_test (is_refused (ran c).ending) (λ e. absurd (h (told c 0 ∙ refused_word_lem (ran c).ending e))) (λ e. e)

pub box_asks_after_runs : BoxAsksAfterRuns
box_asks_after_runs c a h =
    let after : List ℕ = space_after (ran c) (space_in c) in
    let tables : Tables = (answer_of (ran c) (tables_in (block_in c))).tables in
    let reply : Reply = answer_for (ran c).machine.variables (name_in a) in
    let left : space_asked a ≡ after = h.space ∙ c.allowed.spaced in
    let found : found_words a ≡ found_in (ask_of tables (length after) (name_in a)) =
    a.allowed ∙ ap₂ (λ t n. found_in (ask_of t n (name_in a))) (ap tables_in h.block ∙ c.allowed.told.meant) (ap length left) in
    let says = answers_after_runs (text_in c) (input_in c) (space_in c) (room_in c) (length (records_in c)) (budget_in c) (tables_in (block_in c)) (name_in a) (begun c h.taken) in
    subst (λ (s : List ℕ). Told s (found_words a) reply) (sym left)
    (subst (λ (x : List ℕ). Told after x reply) (sym found) (told_by says))
